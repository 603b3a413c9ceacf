use Rattle.std.proofs.Common.{◌≡◌, ℕ}
use Rattle.std.proofs.lemmas.List.Elements.{same_from_all_zip}
use Rattle.mdv_engine.proofs.transfer.buffer.Goals as goal

pub returns-in-Ok-clause-ok : goal.returns-in-Ok-clause-ok
returns-in-Ok-clause-ok c = c.in-Ok.ensures.items_if_clones_equal (λ y clone. same_from_all_zip (λ (a b : ℕ). b ≡ a) c.args.block y clone.whole (λ a b e. e))
