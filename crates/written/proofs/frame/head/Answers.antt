use Rattle.std.proofs.Common.{◌≡◌, ℕ, List, [], ◌∷◌, ◌++◌, ap, ap₂, ◌∙◌}
use Rattle.written.proofs.Heads.{head_is}
use Rattle.written.proofs.frame.head.Goals as goal

joined : {xs ys ms ns zs : List ℕ} → zs ≡ xs ++ ms → xs ≡ ys → ms ≡ ns → zs ≡ ys ++ ns
joined e f g = e ∙ ap₂ (λ (x y : List ℕ). x ++ y) f g

pub returns : goal.returns
returns c =
    let one = joined c.append.ensures c.new-bytes.ensures c.to_be_bytes.ensures in
    let offset = joined c.append-3.ensures (c.append-2.ensures ∙ ap (λ (xs : List ℕ). xs ++ 0 ∷ 25 ∷ 9 ∷ []) one) c.to_le_bytes.ensures in
    let seqno = joined c.append-5.ensures (c.append-4.ensures ∙ ap (λ (xs : List ℕ). xs ++ 17 ∷ []) offset) c.to_le_bytes-2.ensures in
    joined c.append-7.ensures (joined c.append-6.ensures seqno (ap (λ (b : ℕ). 24 ∷ b ∷ 37 ∷ []) c.mark.ensures)) c.to_le_bytes-3.ensures
    ∙ head_is c.args.payload c.args.header
