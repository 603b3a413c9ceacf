use Rattle.std.proofs.Common.{◌≡◌, ◌<◌, ◌∙◌, ap, sym, subst, rules, ℕ, Some, None, List, length, nat_cmp, Contains}
use Rattle.std.proofs.lemmas.Option.{slice_get_within, get_or_from_slice_get}
use Rattle.std.specs.BTreeMap.{get}
use Rattle.mdv_name.specs.declared.slice_lines.SliceLine.{SliceLine}
use Rattle.mdv_name.specs.Code.{slice_code}
use Rattle.mdv_name.specs.Drive.{IsDriveName}
use Rattle.mdv_name.proofs.SliceIndexes.{stands_at, never_stands}
use Rattle.mdv_name.proofs.slice_list.SliceList.find.Goals as goal

pub returns-in_err-place-clause-none : goal.returns-in_err-place-clause-none
returns-in_err-place-clause-none c =
    rw c.from_residual.ensures (λ at found.
    let none : get nat_cmp c.self.inside.places (slice_code c.args.name) ≡ None = ap (λ (k : ℕ). get nat_cmp c.self.inside.places k) (sym c.slice_code.ensures) ∙ sym c.in_err-place.ensures.value in
    never_stands c.self.inside.places c.self.inside.lines.items c.args.name at c.self.invariant none (rw c.self.view_is found))

pub index-requires : goal.index-requires
index-requires c =
    let found : get nat_cmp c.self.inside.places (slice_code c.args.name) ≡ Some c.in_ok-place.field-0.now = ap (λ (k : ℕ). get nat_cmp c.self.inside.places k) (sym c.slice_code.ensures) ∙ sym c.in_ok-place.ensures.value in
    let form : IsDriveName c.args.name.drive = record { controller = search rules; target = search rules; disk = search rules } in
    let stands = stands_at c.self.inside.places c.self.inside.lines.items c.args.name c.in_ok-place.field-0.now c.self.invariant form (search rules) found in
    let within : c.in_ok-place.field-0.now < length c.self.inside.lines.items = slice_get_within c.self.inside.lines.items c.in_ok-place.field-0.now stands.line stands.at in
    search rules

pub returns-clause-value : goal.returns-clause-value
returns-clause-value c =
    let found : get nat_cmp c.self.inside.places (slice_code c.args.name) ≡ Some c.in_ok-place.field-0.now = ap (λ (k : ℕ). get nat_cmp c.self.inside.places k) (sym c.slice_code.ensures) ∙ sym c.in_ok-place.ensures.value in
    let form : IsDriveName c.args.name.drive = record { controller = search rules; target = search rules; disk = search rules } in
    let stands = stands_at c.self.inside.places c.self.inside.lines.items c.args.name c.in_ok-place.field-0.now c.self.invariant form (search rules) found in
    let within : c.in_ok-place.field-0.now < length c.self.inside.lines.items = slice_get_within c.self.inside.lines.items c.in_ok-place.field-0.now stands.line stands.at in
    let read : c.index.result.now ≡ stands.line = c.index.ensures ∙ get_or_from_slice_get c.self.inside.lines.items c.in_ok-place.field-0.now stands.line c.index.result.now stands.at in
    let want : SliceLine = record { name = c.args.name; at = c.index.result.now.at } in
    let reads_at : stands.line.at ≡ want.at = sym (ap (λ (l : SliceLine). l.at) read) in
    let same : stands.line ≡ want = λ i. record { name = stands.name_is i; at = reads_at i } in
    let contains : Contains c.self.inside.lines.items want = (c.in_ok-place.field-0.now, within, get_or_from_slice_get c.self.inside.lines.items c.in_ok-place.field-0.now stands.line want stands.at ∙ same) in
    subst (λ (l : List SliceLine). Contains l want) c.self.view_is contains
