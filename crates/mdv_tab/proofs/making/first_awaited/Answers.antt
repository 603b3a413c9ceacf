use Rattle.std.proofs.Common.{◌∙◌, ◌<◌, ℕ, length, sym, subst, arith}
use Rattle.std.proofs.lemmas.List.Elements.{Contains-get_or}
use Rattle.mdv_tab.proofs.Makings.{same_at}
use Rattle.mdv_tab.proofs.making.first_awaited.Goals as goal

pub is_awaited-requires : goal.is_awaited-requires
is_awaited-requires c =
    let names = c.args.place.now.stands in
    let within : c.loop-k.k < length names.items = omega (arith, c.loop-k-test.true, c.len-k-end.ensures, names.ok.0) in
    let F : ℕ → Type 0 = λ x. x < length c.args.left.now in
    subst F (sym (c.index.ensures ∙ same_at names.items c.loop-k.k c.index.result.now 0 within)) (c.requires _ (Contains-get_or names.items c.loop-k.k 0 within))
