-- The drive that a map's place leads to.
use Rattle.std.proofs.Common.{◌≡◌, ◌<◌, ℕ, refl, sym, ◌∙◌, ap, subst, List, [], ◌∷◌, ◌++◌, length, map, cond, Option, None, Some, arith, nat_cmp, length-append, append-nil}
use Rattle.std.proofs.lemmas.Option.{slice_get_within, get_or_from_slice_get}
use Rattle.std.proofs.lemmas.List.Elements.{All-push, filter_map-append}
use Rattle.std.proofs.lemmas.List.{map-append, length-map}
use Rattle.std.specs.Prelude.{slice_get}
use Rattle.std.specs.List.{cons_option}
use Rattle.std.specs.Option.{option_map}
use Rattle.std.specs.BTreeMap.{BTreeMap, get, is_at}
use Rattle.mdv_base.specs.declared.drive.DriveName.{DriveName}
use Rattle.mdv_name.specs.declared.drive_line.DriveLine.{DriveLine}
use Rattle.mdv_name.specs.declared.drive_line.DriveKind.{DriveKind}
use Rattle.mdv_name.specs.declared.drive_line.DriveKind.TheVariants.{Own, Shared, Mediator}
use Rattle.mdv_name.specs.Code.{drive_code}
use Rattle.mdv_name.specs.Drive.{IsDriveName}
use Rattle.mdv_name.specs.Index.{HasPlaces}
use Rattle.mdv_name.specs.DriveIndex.{IsDriveIndex, IsDriveAt, IsNamed, drive_of, mediator_of, named_drive, mediator_hosts, code_of}
use Rattle.mdv_name.proofs.Places.{slice_get-map, HasPlaces-push, HasPlaces-skip, drive_code_injective}

named_form : (k : DriveKind) (d : DriveName) → IsNamed k → drive_of k ≡ Some d → IsDriveName d
named_form (Own drive host) d form is = subst IsDriveName (cc) form.0
named_form (Shared drive) d form is = subst IsDriveName (cc) form
named_form (Mediator host) d form is = cc

coded : (o : Option DriveName) (code : ℕ) → option_map drive_code o ≡ Some code → (d : DriveName) × (o ≡ Some d) × (drive_code d ≡ code)
coded None code is = cc
coded (Some d) code is = (d, refl, cc)

mapped : (o : Option DriveLine) (code : ℕ) → option_map code_of o ≡ Some (Some code) → (l : DriveLine) × (o ≡ Some l) × (code_of l ≡ Some code)
mapped None code is = cc
mapped (Some l) code is = (l, refl, cc)

pub drive_stands_at : (places : BTreeMap ℕ ℕ) (mediators : List (List ℕ)) (lines : List DriveLine) (name : DriveName) (n : ℕ) → IsDriveIndex places mediators lines → IsDriveName name → get nat_cmp places (drive_code name) ≡ Some n → IsDriveAt lines n name × (n < length lines)
drive_stands_at places mediators lines name n index form found =
    let m = mapped (slice_get lines n) (drive_code name) (sym (slice_get-map code_of lines n) ∙ index.found.stands (drive_code name) n found) in
    let d = coded (named_drive m.0) (drive_code name) m.2 in
    let lt = slice_get_within lines n m.0 m.1 in
    let its_form : IsNamed m.0.kind = subst (λ (l : DriveLine). IsNamed l.kind) (get_or_from_slice_get lines n m.0 m.0 m.1) (index.forms n m.0 lt) in
    let same : d.0 ≡ name = drive_code_injective d.0 name (named_form m.0.kind d.0 its_form d.1) form d.2 in
    (slice_get-map named_drive lines n ∙ ap (option_map named_drive) m.1 ∙ ap (λ (o : Option DriveName). Some o) d.1 ∙ ap (λ (e : DriveName). Some (Some e)) same, lt)

recoded : (o : Option DriveLine) (name : DriveName) → option_map named_drive o ≡ Some (Some name) → option_map code_of o ≡ Some (Some (drive_code name))
recoded None name is = cc
recoded (Some l) name is = let one : named_drive l ≡ Some name = cc in ap (λ (o : Option DriveName). Some (option_map drive_code o)) one

-- a drive has one place
pub drive_place : (places : BTreeMap ℕ ℕ) (mediators : List (List ℕ)) (lines : List DriveLine) (name : DriveName) (n : ℕ) → IsDriveIndex places mediators lines → IsDriveAt lines n name → get nat_cmp places (drive_code name) ≡ Some n
drive_place places mediators lines name n index at =
    index.found.known (drive_code name) n (slice_get-map code_of lines n ∙ recoded (slice_get lines n) name (sym (slice_get-map named_drive lines n) ∙ at))

no_place : (places : BTreeMap ℕ ℕ) (mediators : List (List ℕ)) (lines : List DriveLine) (name : DriveName) (o : Option ℕ) → get nat_cmp places (drive_code name) ≡ o → IsDriveIndex places mediators lines → IsDriveName name → ((n : ℕ) → IsDriveAt lines n name → ⊥) → o ≡ None
no_place places mediators lines name None is index form fresh = refl
no_place places mediators lines name (Some n) is index form fresh = absurd (fresh n (drive_stands_at places mediators lines name n index form is).0)

pub drive_never_stands : (places : BTreeMap ℕ ℕ) (mediators : List (List ℕ)) (lines : List DriveLine) (name : DriveName) (n : ℕ) → IsDriveIndex places mediators lines → get nat_cmp places (drive_code name) ≡ None → IsDriveAt lines n name → ⊥
drive_never_stands places mediators lines name n index none at =
    let known = drive_place places mediators lines name n index at in
    cc

hosts-push : (lines : List DriveLine) (line : DriveLine) (o : Option (List ℕ)) → mediator_of line.kind ≡ o → mediator_hosts (lines ++ line ∷ []) ≡ mediator_hosts lines ++ cons_option o []
hosts-push lines line o is = filter_map-append (λ (l : DriveLine). mediator_of l.kind) lines (line ∷ []) ∙ ap (λ (p : Option (List ℕ)). mediator_hosts lines ++ cons_option p []) is

no_mediator : (k : DriveKind) (d : DriveName) → drive_of k ≡ Some d → mediator_of k ≡ None
no_mediator (Own drive host) d is = refl
no_mediator (Shared drive) d is = refl
no_mediator (Mediator host) d is = cc

pub push_drive : (places new : BTreeMap ℕ ℕ) (mediators : List (List ℕ)) (lines : List DriveLine) (line : DriveLine) (drive : DriveName) → IsDriveIndex places mediators lines → length lines < 256 → IsNamed line.kind → drive_of line.kind ≡ Some drive → ((n : ℕ) → IsDriveAt lines n drive → ⊥) → ((q : ℕ) → get nat_cmp new q ≡ cond (is_at (nat_cmp (drive_code drive)) q) (Some (length lines)) (get nat_cmp places q)) → IsDriveIndex new mediators (lines ++ line ∷ [])
push_drive places new mediators lines line drive index room form is fresh updated =
    let codes = map code_of lines in
    let more : map code_of (lines ++ line ∷ []) ≡ codes ++ Some (drive_code drive) ∷ [] = map-append code_of lines (line ∷ []) ∙ ap (λ (o : Option DriveName). codes ++ option_map drive_code o ∷ []) is in
    record {
      forms = All-push (λ (l : DriveLine). IsNamed l.kind) lines line index.forms form;
      few = omega (arith, length-append lines (line ∷ []), room);
      found = subst (HasPlaces new) (sym more) (HasPlaces-push places new codes (drive_code drive) index.found (no_place places mediators lines drive (get nat_cmp places (drive_code drive)) refl index (named_form line.kind drive form is) fresh) (λ q. updated q ∙ ap (λ (n : ℕ). cond (is_at (nat_cmp (drive_code drive)) q) (Some n) (get nat_cmp places q)) (sym (length-map lines code_of))));
      hosts = index.hosts ∙ sym (hosts-push lines line None (no_mediator line.kind drive is) ∙ append-nil (mediator_hosts lines));
    }

pub push_mediator : (places : BTreeMap ℕ ℕ) (mediators : List (List ℕ)) (lines : List DriveLine) (line : DriveLine) (host : List ℕ) → IsDriveIndex places mediators lines → length lines < 256 → IsNamed line.kind → drive_of line.kind ≡ None → mediator_of line.kind ≡ Some host → IsDriveIndex places (mediators ++ host ∷ []) (lines ++ line ∷ [])
push_mediator places mediators lines line host index room form none is =
    let codes = map code_of lines in
    let more : map code_of (lines ++ line ∷ []) ≡ codes ++ None ∷ [] = map-append code_of lines (line ∷ []) ∙ ap (λ (o : Option DriveName). codes ++ option_map drive_code o ∷ []) none in
    record {
      forms = All-push (λ (l : DriveLine). IsNamed l.kind) lines line index.forms form;
      few = omega (arith, length-append lines (line ∷ []), room);
      found = subst (HasPlaces places) (sym more) (HasPlaces-skip places codes index.found);
      hosts = ap (λ (l : List (List ℕ)). l ++ host ∷ []) index.hosts ∙ sym (hosts-push lines line (Some host) is);
    }

pub never_neither : (k : DriveKind) → drive_of k ≡ None → mediator_of k ≡ None → ⊥
never_neither (Own drive host) none nor = cc
never_neither (Shared drive) none nor = cc
never_neither (Mediator host) none nor = cc

pub same_index : (p q : BTreeMap ℕ ℕ) (m n : List (List ℕ)) (ls ks : List DriveLine) → p ≡ q → m ≡ n → ls ≡ ks → IsDriveIndex q n ks → IsDriveIndex p m ls
same_index p q m n ls ks places mediators lines index =
    subst (λ (a : BTreeMap ℕ ℕ). IsDriveIndex a m ls) (sym places) (subst (λ (b : List (List ℕ)). IsDriveIndex q b ls) (sym mediators) (subst (IsDriveIndex q n) (sym lines) index))
