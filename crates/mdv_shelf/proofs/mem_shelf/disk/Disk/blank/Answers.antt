use Rattle.std.proofs.Common.{◌≡◌, ℕ}
use Rattle.std.proofs.lemmas.List.Elements.{same_from_all_zip}
use Rattle.mdv_shelf.specs.MemHistory.{zero_block}
use Rattle.mdv_shelf.proofs.mem_shelf.disk.Disk.blank.Goals as goal

pub returns-clause-start : goal.returns-clause-start
returns-clause-start c = c.in_ok-start.ensures.items_if_clones_equal (λ y clone. same_from_all_zip (λ (a b : ℕ). b ≡ a) zero_block y clone.whole (λ a b e. e))

pub returns-clause-latest : goal.returns-clause-latest
returns-clause-latest c = c.in_ok-latest.ensures.items_if_clones_equal (λ y clone. same_from_all_zip (λ (a b : ℕ). b ≡ a) zero_block y clone.whole (λ a b e. e))
