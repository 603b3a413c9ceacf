use Rattle.std.proofs.Common.{Bor, ◌≡◌, ◌∙◌, ◌+◌, ℕ, Bool, not, true, Option, None, Some, sym, refl, ap, if◌then◌else◌}
use Rattle.std.specs.Prelude.{is_some, option_copied}
use Rattle.std.specs.BTreeMap.{btree_map_len}
use Rattle.mdv_tab.proofs.Indexes.{adds_key}
use Rattle.mdv_tab.proofs.index.Index.add.Goals as goal

none_copied : (o : Option (Bor ℕ)) (r : Bool) → not r ≡ is_some o → r ≡ true → option_copied o ≡ None
none_copied None r is none = refl
none_copied (Some x) r is none = let no : not true ≡ true = ap not (sym none) ∙ is in cc

pub returns-in_ok-insert : goal.returns-in_ok-insert
returns-in_ok-insert c =
    let none : c.in_ok-insert.field-0 ≡ None = c.in_ok-insert.ensures.old ∙ sym c.get.ensures.value ∙ none_copied c.get.result c.is_none.result (sym c.is_none.ensures) c.if-is_none.true in
    let longer = c.in_ok-insert.ensures.len ∙ ap (λ (o : Option ℕ). btree_map_len c.args.self.now.numbers + (if is_some o then 0 else 1)) none in
    adds_key c.args.self.now (record { numbers = c.insert.new.self }) c.args.key c.len-next.result c.requires.sound c.len-next.ensures.len longer c.in_ok-insert.ensures.updates.1 c.in_ok-insert.ensures.updates.0
