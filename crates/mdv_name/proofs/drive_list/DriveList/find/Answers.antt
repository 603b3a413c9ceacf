use Rattle.std.proofs.Common.{◌≡◌, ◌<◌, ◌≤◌, ◌∙◌, ap, sym, subst, rules, ℕ, Some, None, List, length, nat_cmp, arith}
use Rattle.std.specs.BTreeMap.{get}
use Rattle.mdv_name.specs.declared.drive_line.DriveLine.{DriveLine}
use Rattle.mdv_name.specs.Code.{drive_code}
use Rattle.mdv_name.specs.Drive.{IsDriveName}
use Rattle.mdv_name.specs.DriveIndex.{IsDriveAt}
use Rattle.mdv_name.proofs.DriveIndexes.{drive_stands_at, drive_never_stands, drive_place}
use Rattle.mdv_name.proofs.drive_list.DriveList.find.Goals as goal

pub returns-in_err-place-clause-none : goal.returns-in_err-place-clause-none
returns-in_err-place-clause-none c =
    rw c.from_residual.ensures (λ n at.
    let none : get nat_cmp c.self.inside.places (drive_code c.args.name) ≡ None = ap (λ (k : ℕ). get nat_cmp c.self.inside.places k) (sym c.drive_code.ensures) ∙ sym c.in_err-place.ensures.value in
    drive_never_stands c.self.inside.places c.self.inside.mediators c.self.inside.lines.items c.args.name n c.self.invariant none (subst (λ (l : List DriveLine). IsDriveAt l n c.args.name) (sym c.self.view_is) at))

pub overflow_cast-result : goal.overflow_cast-result
overflow_cast-result c =
    let found : get nat_cmp c.self.inside.places (drive_code c.args.name) ≡ Some c.in_ok-place.field-0.now = ap (λ (k : ℕ). get nat_cmp c.self.inside.places k) (sym c.drive_code.ensures) ∙ sym c.in_ok-place.ensures.value in
    let form : IsDriveName c.args.name = record { controller = search rules; target = search rules; disk = search rules } in
    let stands = drive_stands_at c.self.inside.places c.self.inside.mediators c.self.inside.lines.items c.args.name c.in_ok-place.field-0.now c.self.invariant form found in
    let few : length c.self.inside.lines.items ≤ 256 = c.self.invariant.few in
    let small : c.in_ok-place.field-0.now < 256 = omega (arith, stands.1, few) in
    search rules

pub returns-clause-value : goal.returns-clause-value
returns-clause-value c =
    let found : get nat_cmp c.self.inside.places (drive_code c.args.name) ≡ Some c.in_ok-place.field-0.now = ap (λ (k : ℕ). get nat_cmp c.self.inside.places k) (sym c.drive_code.ensures) ∙ sym c.in_ok-place.ensures.value in
    let form : IsDriveName c.args.name = record { controller = search rules; target = search rules; disk = search rules } in
    let stands = drive_stands_at c.self.inside.places c.self.inside.mediators c.self.inside.lines.items c.args.name c.in_ok-place.field-0.now c.self.invariant form found in
    subst (λ (l : List DriveLine). IsDriveAt l c.in_ok-place.field-0.now c.args.name × ((m : ℕ) → IsDriveAt l m c.args.name → m ≡ c.in_ok-place.field-0.now)) c.self.view_is (
      stands.0,
      λ m at. let known = drive_place c.self.inside.places c.self.inside.mediators c.self.inside.lines.items c.args.name m c.self.invariant at in let both : Some m ≡ Some c.in_ok-place.field-0.now = sym known ∙ found in cc,
    )
