use Rattle.std.proofs.Common.{◌≡◌, ◌<◌, ◌∙◌, ap, sym, subst, rules, ℕ, Some, List, [], ◌∷◌, ◌++◌, cond, length, nat_cmp}
use Rattle.std.specs.BTreeMap.{get, is_at}
use Rattle.mdv_name.specs.declared.drive_line.DriveLine.{DriveLine}
use Rattle.mdv_name.specs.declared.drive_list.DriveList.TheInside.{Inside}
use Rattle.mdv_name.specs.Code.{drive_code}
use Rattle.mdv_name.specs.DriveIndex.{IsDriveAt}
use Rattle.mdv_name.proofs.DriveIndexes.{push_drive, push_mediator, never_neither, same_index}
use Rattle.mdv_name.proofs.drive_list.DriveList.push.Goals as goal
use Rattle.mdv_name.proofs.drive_list.DriveList.push.Goals.{in-Some+in_ok-insert-in-Some, in-None+in-Some-mediator+in_ok-push-in-None, in-None+in_default}

pub invariant_of-self-2 : goal.invariant_of-self-2
invariant_of-self-2 c =
    let old = c.self.inside.lines.items in
    let line = c.args.line in
    let room : length old < 256 = subst (λ (l : List DriveLine). length l < 256) (sym c.self.view_is) c.requires.room in
    elim c.match-drive.branch [
      | in-Some+in_ok-insert-in-Some w ↦
          let items : c.push-2.new.self.items ≡ old ++ line ∷ [] = c.in_ok-push.ensures.items ∙ ap (λ (r : Inside). r.lines.items ++ line ∷ []) w.self-inside-is ∙ ap (λ (l : List DriveLine). l ++ line ∷ []) c.reserve.ensures.items in
          let place : w.len.result ≡ length old = search rules in
          same_index _ w.insert.new.self _ c.self.inside.mediators _ (old ++ line ∷ []) (ap (λ (r : Inside). r.places) w.self-inside-is) (ap (λ (r : Inside). r.mediators) w.self-inside-is) items (
          push_drive c.self.inside.places w.insert.new.self c.self.inside.mediators old line w.in-Some.drive c.self.invariant room c.requires.form (sym w.in-Some.ensures) (subst (λ (l : List DriveLine). (n : ℕ) → IsDriveAt l n w.in-Some.drive → ⊥) (sym c.self.view_is) (c.requires.fresh w.in-Some.drive (sym w.in-Some.ensures))) (λ q.
          w.in_ok-insert-in-Some.ensures.updates.0 q ∙ ap (λ (k : ℕ). cond (is_at (nat_cmp k) q) (Some w.len.result) (get nat_cmp c.self.inside.places q)) w.drive_code.ensures
          ∙ ap (λ (n : ℕ). cond (is_at (nat_cmp (drive_code w.in-Some.drive)) q) (Some n) (get nat_cmp c.self.inside.places q)) place)
          )
      | in-None+in-Some-mediator+in_ok-push-in-None w ↦
          let items : c.push-2.new.self.items ≡ old ++ line ∷ [] = c.in_ok-push.ensures.items ∙ ap (λ (r : Inside). r.lines.items ++ line ∷ []) w.self-inside-is ∙ ap (λ (l : List DriveLine). l ++ line ∷ []) c.reserve.ensures.items in
          same_index _ c.self.inside.places _ (c.self.inside.mediators ++ w.in-Some-mediator.host ∷ []) _ (old ++ line ∷ []) (ap (λ (r : Inside). r.places) w.self-inside-is) (ap (λ (r : Inside). r.mediators) w.self-inside-is ∙ w.in_ok-push-in-None.ensures.ok) items (
          push_mediator c.self.inside.places c.self.inside.mediators old line w.in-Some-mediator.host c.self.invariant room c.requires.form (sym w.in-None.ensures) (sym w.in-Some-mediator.ensures)
          )
      | in-None+in_default w ↦ absurd (never_neither line.kind (sym w.in-None.ensures) (sym w.in_default.ensures))
    ]
