-- Names and drives, read word by word.
use Rattle.std.proofs.Common.{◌≡◌, ◌<◌, ℕ, refl, sym, ◌∙◌, ap, subst, List, [], ◌∷◌, ◌++◌, length, append_assoc, append-nil, arith}
use Rattle.mdv_base.specs.Name.{IsName}
use Rattle.mdv_base.specs.declared.drive.DriveName.{DriveName}
use Rattle.mdv_name.specs.Drive.{IsDriveName, drive_text}
use Rattle.mdv_grammar.specs.Sets.{EachIsName, AreNames, EachIsDrive, AreDrives}

-- the words are the names so far, and the rest
pub record NamesSoFar (all rest names : List (List ℕ)) : Type 0 where
  pub place : all ≡ names ++ rest
  pub form : EachIsName names

pub names_none : (all : List (List ℕ)) → NamesSoFar all all []
names_none all = record { place = refl; form = tt }

each_more : (names : List (List ℕ)) (n : List ℕ) → EachIsName names → IsName n → EachIsName (names ++ n ∷ [])
each_more [] n far is = (is, tt)
each_more (m ∷ names) n far is = (far.0, each_more names n far.1 is)

pub names_more : (all rest behind names next : List (List ℕ)) (w n : List ℕ) → NamesSoFar all rest names → rest ≡ w ∷ behind → n ≡ w → IsName w → next ≡ names ++ n ∷ [] → NamesSoFar all behind next
names_more all rest behind names next w n far first same is push =
    let now : NamesSoFar all behind (names ++ w ∷ []) = record { place = far.place ∙ ap (λ (l : List (List ℕ)). names ++ l) first ∙ sym (append_assoc names (w ∷ []) behind); form = each_more names w far.form is } in
    subst (NamesSoFar all behind) (sym (push ∙ ap (λ (l : List ℕ). names ++ l ∷ []) same)) now

each_behind : (names rest : List (List ℕ)) → EachIsName (names ++ rest) → EachIsName rest
each_behind [] rest each = each
each_behind (n ∷ names) rest each = each_behind names rest each.1

-- a word that is no name
pub names_stop : (all rest behind names : List (List ℕ)) (w : List ℕ) → NamesSoFar all rest names → rest ≡ w ∷ behind → (IsName w → ⊥) → (others : List (List ℕ)) → AreNames all others → ⊥
names_stop all rest behind names w far first none others are =
    let whole : EachIsName all = subst EachIsName (sym are.words) are.form in
    let each : EachIsName (names ++ w ∷ behind) = subst EachIsName (far.place ∙ ap (λ (l : List (List ℕ)). names ++ l) first) whole in
    none (each_behind names (w ∷ behind) each).0

pub names_whole : (all rest names : List (List ℕ)) → NamesSoFar all rest names → rest ≡ [] → all ≡ names
names_whole all rest names far none = far.place ∙ ap (λ (l : List (List ℕ)). names ++ l) none ∙ append-nil names

pub names_are : (all rest names : List (List ℕ)) → NamesSoFar all rest names → rest ≡ [] → 0 < length names → AreNames all names
names_are all rest names far none some = record { words = names_whole all rest names far none; form = far.form; some = some }

pub names_wanting : (all rest names : List (List ℕ)) → NamesSoFar all rest names → rest ≡ [] → length names ≡ 0 → (others : List (List ℕ)) → AreNames all others → ⊥
names_wanting all rest names far none empty others are = omega (arith, empty, are.some, ap length (sym (names_whole all rest names far none) ∙ are.words))

-- the same for drives
pub record DrivesSoFar (all rest : List (List ℕ)) (drives : List DriveName) : Type 0 where
  pub words : List (List ℕ)
  pub place : all ≡ words ++ rest
  pub form : EachIsDrive words drives

pub drives_none : (all : List (List ℕ)) → DrivesSoFar all all []
drives_none all = record { words = []; place = refl; form = tt }

drives_behind : (ws : List (List ℕ)) (ds : List DriveName) (w : List ℕ) (d : DriveName) → EachIsDrive ws ds → w ≡ drive_text d → IsDriveName d → EachIsDrive (ws ++ w ∷ []) (ds ++ d ∷ [])
drives_behind [] [] w d far is form = (is, form, tt)
drives_behind [] (e ∷ ds) w d far is form = absurd far
drives_behind (v ∷ ws) [] w d far is form = absurd far
drives_behind (v ∷ ws) (e ∷ ds) w d far is form = (far.0, far.1, drives_behind ws ds w d far.2 is form)

pub drives_more :
    (all rest behind : List (List ℕ)) (drives next : List DriveName) (w : List ℕ) (d : DriveName) → DrivesSoFar all rest drives → rest ≡ w ∷ behind → w ≡ drive_text d → IsDriveName d → next ≡ drives ++ d ∷ [] →
    DrivesSoFar all behind next
drives_more all rest behind drives next w d far first is form push =
    let now : DrivesSoFar all behind (drives ++ d ∷ []) = record {
      words = far.words ++ w ∷ [];
      place = far.place ∙ ap (λ (l : List (List ℕ)). far.words ++ l) first ∙ sym (append_assoc far.words (w ∷ []) behind);
      form = drives_behind far.words drives w d far.form is form;
    } in
    subst (DrivesSoFar all behind) (sym push) now

drive_at : (ws vs : List (List ℕ)) (w : List ℕ) (ds : List DriveName) → EachIsDrive (ws ++ w ∷ vs) ds → (d : DriveName) × (w ≡ drive_text d) × IsDriveName d
drive_at [] vs w [] each = absurd each
drive_at [] vs w (d ∷ ds) each = (d, each.0, each.1)
drive_at (v ∷ ws) vs w [] each = absurd each
drive_at (v ∷ ws) vs w (d ∷ ds) each = drive_at ws vs w ds each.2

pub drives_stop :
    (all rest behind : List (List ℕ)) (drives : List DriveName) (w : List ℕ) → DrivesSoFar all rest drives → rest ≡ w ∷ behind → ((d : DriveName) → IsDriveName d → w ≡ drive_text d → ⊥) →
    (others : List DriveName) → AreDrives all others → ⊥
drives_stop all rest behind drives w far first none others are =
    let each : EachIsDrive (far.words ++ w ∷ behind) others = subst (λ (l : List (List ℕ)). EachIsDrive l others) (far.place ∙ ap (λ (l : List (List ℕ)). far.words ++ l) first) are.form in
    let found = drive_at far.words behind w others each in
    none found.0 found.2 found.1

pub drives_are : (all rest : List (List ℕ)) (drives : List DriveName) → DrivesSoFar all rest drives → rest ≡ [] → 0 < length drives → AreDrives all drives
drives_are all rest drives far none some =
    record { form = subst (λ (l : List (List ℕ)). EachIsDrive l drives) (sym (far.place ∙ ap (λ (l : List (List ℕ)). far.words ++ l) none ∙ append-nil far.words)) far.form; some = some }

-- as many as there are words
drives_count : (ws : List (List ℕ)) (ds : List DriveName) → EachIsDrive ws ds → length ws ≡ length ds
drives_count [] [] each = refl
drives_count [] (d ∷ ds) each = absurd each
drives_count (w ∷ ws) [] each = absurd each
drives_count (w ∷ ws) (d ∷ ds) each = omega (arith, drives_count ws ds each.2)

pub drives_wanting : (all rest : List (List ℕ)) (drives : List DriveName) → DrivesSoFar all rest drives → rest ≡ [] → length drives ≡ 0 → (others : List DriveName) → AreDrives all others → ⊥
drives_wanting all rest drives far none empty others are =
    let whole : all ≡ far.words = far.place ∙ ap (λ (l : List (List ℕ)). far.words ++ l) none ∙ append-nil far.words in
    omega (arith, empty, are.some, ap length whole, drives_count far.words drives far.form, drives_count all others are.form)
