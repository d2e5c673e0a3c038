use Rattle.std.proofs.Common.{rules, length, ap, ◌∙◌, arith}
use Rattle.written.proofs.Puts.{so_far_room, so_far_more, so_far_place, so_far_written}
use Rattle.written.proofs.frame.put_runs.Goals as goal

pub put-end-requires : goal.put-end-requires
put-end-requires c =
    let size = c.loop-run.invariant.2 in
    let steps = c.in-Some.ensures.steps in
    omega (arith, ap length c.run_sum.ensures, so_far_room c.args.info c.args.«data».now c.args.out.now c.args.at c.requires.some c.requires.room _ _ _ _ _ c.loop-run.invariant.3 steps.1.0 (rw size at steps.1.1) steps.1.2)

pub loop-run-preserved : goal.loop-run-preserved
loop-run-preserved c =
    let size = c.loop-run.invariant.2 in
    let steps = c.in-Some.ensures.steps in (
      search rules,
      tt,
      steps.0 ∙ size,
      so_far_more c.args.info c.args.«data».now c.args.out.now c.args.at c.requires.some c.requires.room _ _ _ _ _ _ _ _ c.loop-run.invariant.3 steps.1.0 (rw size at steps.1.1) steps.1.2
          c.run_sum.ensures c.put-end.ensures.says_the_place_after c.put-end.ensures.puts_the_bytes,
    )

pub returns-clause-says_the_place_after : goal.returns-clause-says_the_place_after
returns-clause-says_the_place_after c = so_far_place c.args.info c.args.«data».now c.args.out.now c.args.at c.requires.some c.requires.room _ _ _ c.loop-run.invariant.3 c.in-None.ensures.steps.1.0

pub returns-clause-puts_the_sums : goal.returns-clause-puts_the_sums
returns-clause-puts_the_sums c = so_far_written c.args.info c.args.«data».now c.args.out.now c.args.at c.requires.some c.requires.room _ _ _ c.loop-run.invariant.3 c.in-None.ensures.steps.1.0
