-- The versions of a log by their numbers.
use Rattle.std.proofs.Common.{◌≡◌, inl, inr, ℕ, zero, suc, ◌-◌, ◌<◌, true, List, [], ◌∷◌, ◌++◌, length, refl, sym, ◌∙◌, ap, subst, Contains, arith}
use Rattle.std.specs.Prelude.{reverse, slice_index_or}
use Rattle.std.proofs.lemmas.Bool.{cases_lt}
use Rattle.std.proofs.lemmas.List.{reverse-append, length-reverse, get_or_append_left, get_or-append_right}
use Rattle.mdv_store_law.specs.Log.{answered}
use Rattle.mdv_standing.specs.Below.{Version}
use Rattle.mdv_standing.specs.Matching.{no_version, version_at}

last_behind : (v : Version) (older : List Version) → reverse (v ∷ older) ≡ reverse older ++ v ∷ []
last_behind v older = reverse-append (v ∷ []) older

-- a version more leaves the older ones' numbers
pub version_older : (v : Version) (older : List Version) (i : ℕ) → i < length older → version_at (v ∷ older) i ≡ version_at older i
version_older v older i lt =
    ap (λ (l : List Version). slice_index_or l i no_version) (last_behind v older)
    ∙ get_or_append_left (reverse older) (v ∷ []) no_version i (omega (arith, lt, length-reverse older))

pub version_newest : (v : Version) (older : List Version) (i : ℕ) → i ≡ length older → version_at (v ∷ older) i ≡ v
version_newest v older i is =
    ap (λ (l : List Version). slice_index_or l i no_version) (last_behind v older)
    ∙ get_or-append_right (reverse older) (v ∷ []) i i no_version (length-reverse older ∙ sym is) (omega arith)
    ∙ ap (λ (n : ℕ). slice_index_or (v ∷ []) n no_version) (none i)
  where
    none : (n : ℕ) → n - n ≡ 0
    none n = omega arith

contains_first : (v : Version) (older : List Version) → Contains (v ∷ older) v
contains_first v older = (0, omega arith, refl)

contains_behind : (v w : Version) (older : List Version) → Contains older w → Contains (v ∷ older) w
contains_behind v w older is = (suc is.0, omega (arith, is.1), is.2)

-- each number is that of one of the log
pub version_has : (family : List Version) (i : ℕ) → i < length family → Contains family (version_at family i)
version_has [] i lt = absurd (omega (arith, lt))
version_has (v ∷ older) i lt =
    elim (cases_lt i (length older)) [
      | inl less ↦ subst (λ (x : Version). Contains (v ∷ older) x) (sym (version_older v older i less)) (contains_behind v (version_at older i) older (version_has older i less))
      | inr more ↦ subst (λ (x : Version). Contains (v ∷ older) x) (sym (version_newest v older i (omega (arith, lt, more)))) (contains_first v older)
    ]

-- and each of the log has a number
pub has_version : (family : List Version) (v : Version) → Contains family v → (i : ℕ) × (i < length family) × (version_at family i ≡ v)
has_version family v has = at family has.0 has.1 has.2
  where
    at : (list : List Version) (k : ℕ) → k < length list → slice_index_or list k v ≡ v → (i : ℕ) × (i < length list) × (version_at list i ≡ v)
    at [] k lt is = absurd (omega (arith, lt))
    at (x ∷ older) zero lt is = (length older, omega arith, version_newest x older (length older) refl ∙ is)
    at (x ∷ older) (suc k) lt is = (let more = at older k (omega (arith, lt)) is in (more.0, omega (arith, more.1), version_older x older more.0 more.1 ∙ more.2))

-- an answer changes nothing else of a version
pub record IsSameBut (a b : Version) : Type 0 where
  pub mark : a.mark ≡ b.mark
  pub table : a.table ≡ b.table
  pub changes : a.changes ≡ b.changes

same_itself : (a b : Version) → a ≡ b → IsSameBut a b
same_itself a b e = record { mark = ap (λ (x : Version). x.mark) e; table = ap (λ (x : Version). x.table) e; changes = ap (λ (x : Version). x.changes) e }

pub answered_same : (family : List Version) (i : ℕ) → i < length family → IsSameBut (version_at (answered family) i) (version_at family i)
answered_same [] i lt = absurd (omega (arith, lt))
answered_same (v ∷ older) i lt =
    let shut : Version = record v { is_written = true } in
    elim (cases_lt i (length older)) [
      | inl less ↦ same_itself (version_at (shut ∷ older) i) (version_at (v ∷ older) i) (version_older shut older i less ∙ sym (version_older v older i less))
      | inr more ↦
          let last : i ≡ length older = omega (arith, lt, more) in
          let now = same_itself (version_at (shut ∷ older) i) shut (version_newest shut older i last) in
          let was = same_itself (version_at (v ∷ older) i) v (version_newest v older i last) in
          record { mark = now.mark ∙ sym was.mark; table = now.table ∙ sym was.table; changes = now.changes ∙ sym was.changes }
    ]

pub answered_length : (family : List Version) → length (answered family) ≡ length family
answered_length [] = refl
answered_length (v ∷ older) = refl
