-- Stretches of calls on several drives, one behind another.
use Rattle.std.proofs.Common.{◌≡◌, ◌≢◌, ◌⊎◌, inl, inr, ℕ, zero, suc, ◌+◌, List, [], ◌∷◌, length, Contains, Some, refl, sym, ◌∙◌, ap, subst, arith}
use Rattle.std.specs.Option.{option_map}
use Rattle.std.proofs.lemmas.List.Elements.{Contains-append_left, Contains-append_right, Contains-push}
use Rattle.mdv_shelf.specs.Calls.{Part, OnDrive, OnReplies}
use Rattle.mdv_shelf.specs.Drives.{IsAmong, KeptAmong}
use Rattle.mdv_shelf.specs.Story.{InTime, Mark, Story, marked, tale_of}
use Rattle.mdv_shelf.specs.Tale.{Begun, Then}
use Rattle.mdv_shelf.proofs.InTime.{in_time_more}
use Rattle.mdv_shelf.proofs.Noted.{goes_on_more, keeps_more}
use Rattle.mdv_look.specs.Below.{DriveNo, Ghosts, Tale}
use Rattle.mdv_look.proofs.Bringing.{is_drive, one_number, same_drive}

-- how many calls a tale has
abbrev size : Tale → ℕ
size (Begun start) = 0
size (Then t c) = size t + 1

size_marked : (s : Story) (ms : List Mark) → size (tale_of (marked s ms)) ≡ size (tale_of s) + length ms
size_marked s [] = omega arith
size_marked s (m ∷ ms) = let rest = size_marked s ms in omega (arith, rest)

-- where the tale is the same no call was made
no_marks : (s : Story) (ms : List Mark) → tale_of (marked s ms) ≡ tale_of s → ms ≡ []
no_marks s [] same = refl
no_marks s (m ∷ ms) same = absurd (let longer = size_marked s (m ∷ ms) in let is = ap size same in omega (arith, longer, is))

-- one of them, or none
pub is_one_of : (drives : List DriveNo) (drive : DriveNo) → Contains drives drive ⊎ (Contains drives drive → ⊥)
is_one_of [] drive = inr (λ one_of. absurd (omega (arith, one_of.1)))
is_one_of (d ∷ ds) drive = elim (is_drive drive d) [
  | inl e ↦ inl (subst (Contains (d ∷ ds)) (sym e) (Contains-append_left (d ∷ []) ds d (Contains-push [] d)))
  | inr other ↦ elim (is_one_of ds drive) [ inl there ↦ inl (Contains-append_right (d ∷ []) ds drive there) | inr none ↦ inr (λ one_of. not_here ds drive d other none one_of) ]
]
  where
    not_here : (ds : List DriveNo) (drive d : DriveNo) → drive ≢ d → (Contains ds drive → ⊥) → Contains (d ∷ ds) drive → ⊥
    not_here ds drive d other none (zero, within, is) = other (sym is)
    not_here ds drive d other none (suc k, within, is) = none (k, omega (arith, within), is)

pub is_among : (drives : List DriveNo) (part : Part) → IsAmong drives part ⊎ (IsAmong drives part → ⊥)
is_among drives OnReplies = inr (λ among. cc (among.2))
is_among drives (OnDrive n) = elim (is_one_of drives (record { 0 = n })) [
  | inl one_of ↦ inl (record { 0 = n }, one_of, refl)
  | inr none ↦ inr (λ among. none (subst (Contains drives) (same_drive among.0 (record { 0 = n }) (sym (one_number n among.0.0 among.2))) among.1))
]

module _ {S : Type 0} (shelf : Ghosts S) where
  -- the second stretch was made in time behind the first
  pub among_join : (a b c : S) (drives : List DriveNo) → KeptAmong shelf a b drives → KeptAmong shelf b c drives → ((part : Part) → InTime part (shelf.faults a part) (shelf.story b) (shelf.story c)) → KeptAmong shelf a c drives
  among_join a b c drives first second behind = record {
    keeps = keeps_more shelf a b c first.keeps second.keeps;
    goes = goes_on_more shelf a b c first.goes second.goes;
    in_time = λ part. in_time_more part (shelf.faults a part) (shelf.story a) (shelf.story b) (shelf.story c) (first.in_time part) (behind part);
    others = λ other out. second.others other out ∙ first.others other out;
    elsewhere = λ other out count. in_time_more other count (shelf.story a) (shelf.story b) (shelf.story c) (first.elsewhere other out count) (second.elsewhere other out count);
  }

  -- one that changed nothing is
  module _ (telling : (s : S) → shelf.tale s ≡ option_map tale_of (shelf.story s)) (b c : S) (drives : List DriveNo) (kept : KeptAmong shelf b c drives) (same : shelf.tale c ≡ shelf.tale b) where
    pub silent : (part : Part) (count : ℕ) → InTime part count (shelf.story b) (shelf.story c)
    silent part count s is =
        let passed = kept.in_time OnReplies s is in
        let was : shelf.tale b ≡ Some (tale_of s) = telling b ∙ ap (option_map tale_of) is in
        let now : shelf.tale c ≡ Some (tale_of (marked s passed.0)) = telling c ∙ ap (option_map tale_of) passed.1 in
        let stays : tale_of (marked s passed.0) ≡ tale_of s = cc (was, now, same) in
        let none = no_marks s passed.0 stays in
        ([], passed.1 ∙ ap (λ (ms : List Mark). Some (marked s ms)) none, tt)

    pub among_silent : (a : S) → KeptAmong shelf a b drives → KeptAmong shelf a c drives
    among_silent a first = among_join a b c drives first kept (λ part. silent part (shelf.faults a part))

  -- one on fewer drives, on which none failed before
  pub among_calm : (a b c : S) (drives some : List DriveNo) → ((drive : DriveNo) → Contains some drive → Contains drives drive) → ((drive : DriveNo) → Contains some drive → shelf.faults b (OnDrive drive.0) ≡ shelf.faults a (OnDrive drive.0))
      → KeptAmong shelf a b drives → KeptAmong shelf b c some → KeptAmong shelf a c drives
  among_calm a b c drives some within calm first second = among_join a b c drives first wider behind
    where
      wider : KeptAmong shelf b c drives
      wider = record {
        keeps = second.keeps;
        goes = second.goes;
        in_time = second.in_time;
        others = λ other out. second.others other (λ one. out (one.0, within one.0 one.1, one.2));
        elsewhere = λ other out. second.elsewhere other (λ one. out (one.0, within one.0 one.1, one.2));
      }

      behind : (part : Part) → InTime part (shelf.faults a part) (shelf.story b) (shelf.story c)
      behind part = elim (is_among some part) [
        | inl among ↦ subst (λ (n : ℕ). InTime part n (shelf.story b) (shelf.story c)) (subst (λ (p : Part). shelf.faults b p ≡ shelf.faults a p) (sym among.2) (calm among.0 among.1)) (second.in_time part)
        | inr out ↦ second.elsewhere part out (shelf.faults a part)
      ]
