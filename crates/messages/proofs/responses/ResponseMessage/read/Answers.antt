use Rattle.std.proofs.Common.{refl, sym, ◌∙◌}
use Rattle.messages.proofs.ResponseFold.{response_refused}
use Rattle.messages.proofs.responses.ResponseMessage.read.Goals as goal

pub returns-in-Err : goal.returns-in-Err
returns-in-Err c = record {
  told = (response_refused c.args.message.now c.in_ok-of_response.field-0 c.in-Err.fault (sym c.in_ok-of_response.was ∙ c.of_response.ensures) (sym c.in-Err.is ∙ c.told.ensures), refl);
}
