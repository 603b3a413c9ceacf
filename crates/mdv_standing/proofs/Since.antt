-- Where places stand by a log, as the votes know places.
use Rattle.std.proofs.Common.{◌≡◌, inl, inr, ℕ, ◌<◌, ◌≤◌, Bool, true, false, List, [], ◌∷◌, length, refl, sym, ◌∙◌, ap, subst, arith}
use Rattle.std.proofs.lemmas.Bool.{cases_Bool, cases_lt, cond-false, cond-true, false_from_ne_true}
use Rattle.mdv_store_law.specs.Log.{answered}
use Rattle.mdv_standing.specs.Below.{Dropped, Listed, Never, Since, Site, Spot, Version, is_in, last_list, since_after}
use Rattle.mdv_standing.specs.Matching.{IsNotBehind, lists_of, spot_since, version_at}
use Rattle.mdv_standing.proofs.Versions.{version_newest, version_older}

not_behind_after : (n i : ℕ) (listed : Bool) (s : Since) → i ≤ n → IsNotBehind s i → IsNotBehind (since_after n listed s) i
not_behind_after n i true s le is = tt
not_behind_after n i false Never le is = is
not_behind_after n i false Listed le is = le
not_behind_after n i false (Dropped j) le is = is

module _ (site : Site) (p : Spot) where
  abbrev listed : Version → Bool
  listed v = is_in (last_list (lists_of site v)) p

  abbrev since : List Version → Since
  since family = spot_since site family p

  pub since_written : (v : Version) (older : List Version) → v.is_written ≡ true → since (v ∷ older) ≡ since_after (length older) (listed v) (since older)
  since_written v older is = cond-true v.is_written (since_after (length older) (listed v) (since older)) (since older) is

  pub since_unwritten : (v : Version) (older : List Version) → v.is_written ≡ false → since (v ∷ older) ≡ since older
  since_unwritten v older isnt = cond-false v.is_written (since_after (length older) (listed v) (since older)) (since older) isnt

  -- once the newest version's write is answered
  pub answered_not_behind : (family : List Version) (i : ℕ) → i < length family → IsNotBehind (since family) i → IsNotBehind (since (answered family)) i
  answered_not_behind [] i known is = is
  answered_not_behind (v ∷ older) i known is = elim (cases_Bool v.is_written) [
    | inl was ↦ subst (λ (s : Since). IsNotBehind s i) (since_written v older was) is
    | inr wasnt ↦ not_behind_after (length older) i (listed v) (since older) (omega (arith, known)) (subst (λ (s : Since). IsNotBehind s i) (since_unwritten v older wasnt) is)
  ]

  -- what the greatest answered version lists is listed
  pub since_listed : (family : List Version) (f : ℕ) → f < length family → (version_at family f).is_written ≡ true → ((i : ℕ) → i < length family → (version_at family i).is_written ≡ true → i ≤ f)
      → listed (version_at family f) ≡ true → since family ≡ Listed
  since_listed [] f known is greatest has = absurd (omega (arith, known))
  since_listed (v ∷ older) f known is greatest has = elim (cases_lt f (length older)) [
    | inl less ↦
        let unwritten : v.is_written ≡ false = false_from_ne_true v.is_written (λ written.
        let up = greatest (length older) (omega arith) (ap (λ (x : Version). x.is_written) (version_newest v older (length older) refl) ∙ written) in
        absurd (omega (arith, up, less))) in
        since_unwritten v older unwritten
        ∙ since_listed older f less (ap (λ (x : Version). x.is_written) (sym (version_older v older f less)) ∙ is)
        (λ i lt written. greatest i (omega (arith, lt)) (ap (λ (x : Version). x.is_written) (version_older v older i lt) ∙ written))
        (ap listed (sym (version_older v older f less)) ∙ has)
    | inr more ↦
        let last = version_newest v older f (omega (arith, more, known)) in
        let here : listed v ≡ true = ap listed (sym last) ∙ has in
        since_written v older (ap (λ (x : Version). x.is_written) (sym last) ∙ is) ∙ ap (λ (b : Bool). since_after (length older) b (since older)) here
  ]
