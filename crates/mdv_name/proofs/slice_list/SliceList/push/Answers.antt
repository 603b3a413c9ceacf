use Rattle.std.proofs.Common.{◌≡◌, ◌∙◌, ap, sym, subst, List, [], ◌∷◌, ◌++◌, cond, Some, length, ℕ, nat_cmp, rules, Contains}
use Rattle.std.specs.BTreeMap.{get, is_at}
use Rattle.mdv_name.specs.declared.slice_lines.SliceAt.{SliceAt}
use Rattle.mdv_name.specs.declared.slice_lines.SliceLine.{SliceLine}
use Rattle.mdv_name.specs.Code.{slice_code}
use Rattle.mdv_name.specs.SliceIndex.{IsSliceIndex}
use Rattle.mdv_name.proofs.SliceIndexes.{IsSliceIndex-push}
use Rattle.mdv_name.proofs.slice_list.SliceList.push.Goals as goal

pub invariant_of-self-2 : goal.invariant_of-self-2
invariant_of-self-2 c =
    let items : c.push.new.self.items ≡ c.self.inside.lines.items ++ c.args.line ∷ [] = c.in_ok-push.ensures.items ∙ ap (λ (l : List SliceLine). l ++ c.args.line ∷ []) c.reserve.ensures.items in
    let place : c.len.result ≡ length c.self.inside.lines.items = search rules in
    subst (IsSliceIndex c.insert.new.self) (sym items) (
    IsSliceIndex-push c.self.inside.places c.insert.new.self c.self.inside.lines.items c.args.line c.self.invariant c.requires.form (subst (λ (l : List SliceLine). (at : SliceAt) → Contains l (record { name = c.args.line.name; at = at }) → ⊥) (sym c.self.view_is) c.requires.fresh) (λ q.
    c.in_ok-insert.ensures.updates.0 q ∙ ap (λ (k : ℕ). cond (is_at (nat_cmp k) q) (Some c.len.result) (get nat_cmp c.self.inside.places q)) c.slice_code.ensures
    ∙ ap (λ (n : ℕ). cond (is_at (nat_cmp (slice_code c.args.line.name)) q) (Some n) (get nat_cmp c.self.inside.places q)) place)
    )
