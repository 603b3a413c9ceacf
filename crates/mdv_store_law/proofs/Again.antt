-- Where places stand by a log: those that were dropped, and those that were formatted again.
use Rattle.std.proofs.Common.{◌≡◌, ◌⊎◌, inl, inr, ℕ, ◌<◌, Bool, true, false, List, [], ◌∷◌, ◌++◌, length, refl, sym, ◌∙◌, ap, arith}
use Rattle.std.proofs.lemmas.Bool.{cases_Bool, cond-false, cond-true}
use Rattle.std.proofs.lemmas.List.Elements.{All-cons}
use Rattle.mdv_votes.specs.Family.{raised, since_after}
use Rattle.mdv_votes.specs.declared.version.Since.{Since}
use Rattle.mdv_votes.specs.declared.version.Since.TheVariants.{Never, Listed, Dropped}
use Rattle.mdv_store_law.specs.Below.{Place, last_of}
use Rattle.mdv_store_law.specs.Log.{Again, AreNumbered, IsPlaceable, Log, Version, answered, begins_in, placed_again, since_of}

-- once a table is firm, a place that is dropped was before, or is dropped by it
pub dropped_after : (i k : ℕ) (listed : Bool) (s : Since) → since_after i listed s ≡ Dropped k → (s ≡ Dropped k) ⊎ ((s ≡ Listed) × (listed ≡ false) × (k ≡ i))
dropped_after i k true s e = absurd (cc (e))
dropped_after i k false Never e = absurd (cc (e))
dropped_after i k false Listed e = inr (refl, refl, sym (number i k e))
  where
    number : (a b : ℕ) → Dropped a ≡ Dropped b → a ≡ b
    number a b same = cc
dropped_after i k false (Dropped j) e = inl e

-- a place was dropped by a version of the family
pub since_known : (family : List Version) (p : Place) (i : ℕ) → since_of family p ≡ Dropped i → i < length family
since_known [] p i e = absurd (cc (e))
since_known (v ∷ older) p i e =
    let listed = begins_in (last_of v.table.plan.lists) p in
    elim (cases_Bool v.is_written) [
      | inl is ↦ elim (dropped_after (length older) i listed (since_of older p) (sym (cond-true v.is_written (since_after (length older) listed (since_of older p)) (since_of older p) is) ∙ e)) [
        | inl before ↦ (let lt = since_known older p i before in omega (arith, lt))
        | inr now ↦ (let same = now.2 in omega (arith, same))
      ]
      | inr isnt ↦ (let lt = since_known older p i (sym (cond-false v.is_written (since_after (length older) listed (since_of older p)) (since_of older p) isnt) ∙ e) in omega (arith, lt))
    ]

raised_known : (n : ℕ) (s : Since) → 0 < n → ((i : ℕ) → s ≡ Dropped i → i < n) → raised 0 s < n
raised_known n Never some known = some
raised_known n Listed some known = some
raised_known n (Dropped i) some known = (let lt = known i refl in omega (arith, lt))

-- so its number is that of one, or 0
pub placed_numbered : (log : Log) (places : List Place) → IsPlaceable log places → AreNumbered log.family log.again → AreNumbered log.family (placed_again log.family places ++ log.again)
placed_numbered log places may are = by places
  where
    family : List Version
    family = log.family

    again : List Again
    again = log.again

    some : 0 < length family
    some = (let long : length family ≡ length (may.newest ∷ may.older) = ap length may.is in omega (arith, long))

    by : (list : List Place) → AreNumbered family (placed_again family list ++ again)
    by [] = are
    by (p ∷ list) = All-cons (λ (a : Again). a.number < length family) (record { place = p; number = raised 0 (since_of family p) }) (placed_again family list ++ again) (raised_known (length family) (since_of family p) some (since_known family p)) (by list)

-- a version more, and an answer
pub numbered_more : (family : List Version) (v : Version) (again : List Again) → AreNumbered family again → AreNumbered (v ∷ family) again
numbered_more family v again are k d lt = (let known = are k d lt in omega (arith, known))

pub numbered_answered : (family : List Version) (again : List Again) → AreNumbered family again → AreNumbered (answered family) again
numbered_answered [] again are = are
numbered_answered (v ∷ older) again are = are
