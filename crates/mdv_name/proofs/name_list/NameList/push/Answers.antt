use Rattle.std.proofs.Common.{◌≡◌, true, cond, sym, ◌∙◌, ap, subst, List, [], ◌∷◌, ◌++◌, ℕ}
use Rattle.std.proofs.lemmas.Map.Text.{btree_set_updates_text}
use Rattle.std.specs.Str.{bytes_eq}
use Rattle.std.specs.String.{string_bytes}
use Rattle.std.specs.BTreeSet.{contains_text}
use Rattle.mdv_name.specs.Index.{HasTexts}
use Rattle.mdv_name.proofs.Texts.{HasTexts-push}
use Rattle.mdv_name.proofs.name_list.NameList.push.Goals as goal

pub invariant_of-self-2 : goal.invariant_of-self-2
invariant_of-self-2 c =
    let key : string_bytes c.in_ok-text.text ≡ c.args.name = c.in_ok-text.ensures.ok ∙ c.as_str.ensures.value in
    let items : c.push.new.self.items ≡ c.self.inside.items.items ++ c.args.name ∷ [] = c.in_ok-push.ensures.items ∙ ap (λ (l : List (List ℕ)). l ++ c.args.name ∷ []) c.reserve.ensures.items in
    subst (HasTexts c.insert.new.self) (sym items) (
    HasTexts-push c.self.inside.sorted c.insert.new.self c.self.inside.items.items c.args.name c.self.invariant (λ q.
    btree_set_updates_text (string_bytes c.in_ok-text.text) c.self.inside.sorted c.insert.new.self true c.in_ok-insert.ensures.updates q
    ∙ ap (λ (k : List ℕ). cond (bytes_eq k q) true (contains_text c.self.inside.sorted q)) key)
    )
