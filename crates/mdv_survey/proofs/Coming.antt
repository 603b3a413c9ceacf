-- Where a look at a slice doesn't come.
use Rattle.std.proofs.Common.{inl, inr, ℕ, ◌+◌, ◌*◌, ◌<◌, ◌≤◌, List, subst, None, arith}
use Rattle.mdv_shown.proofs.Elsewhere.{one_master, places_step}
use Rattle.mdv_survey.specs.Below.{Geometry, Head, IsInChain, IsMasterAt, IsTextOf, Master, PlaceAt, Site, SliceLine, place_on, size_on}
use Rattle.mdv_survey.specs.Others.{ComesTo, IsReached, first_at, most_on}
use Rattle.mdv_survey.specs.Slice.{IsHeadThere}
use Rattle.mdv_survey.proofs.Chains.{head_first}

module _ (g : Geometry) (site : Site) (line : SliceLine) (c : ℕ → List ℕ) where
  -- behind a first place without a head
  pub comes_headless : IsHeadThere (first_at line (most_on line)) (size_on site line) c None → (k : ℕ) (at : PlaceAt) → 1 ≤ k → ComesTo g site line k c at → ⊥
  comes_headless there k at from (inl (zero, is)) = omega (arith, zero, from)
  comes_headless there k at from (inr (first, reached, is)) =
      let chain = reached.ahead.before 0 (omega (arith, from)) in
      let length = chain.1.length in
      let most = chain.1.readable.of_head.lies.most in
      let step = places_step 0 k first.blocks (omega (arith, from)) in
      let within = reached.ahead.within in
      let none = there.spelled chain.0 (head_first line (size_on site line) c chain.0 first.blocks first.count (most_on line) chain.1.readable.of_head (omega (arith, length, most, step, within))) in
      cc (none)

  module _ (first : Master) (located : IsMasterAt (place_on line 8192 0 0) (size_on site line) (c (line.at.start + 16)) first) where
    reached_here : (m : Master) (k : ℕ) → IsReached g site line m k c → IsReached g site line first k c
    reached_here m k reached =
        subst (λ (x : Master). IsReached g site line x k c) (one_master line (size_on site line) (c (line.at.start + 16)) m first reached.ahead.located located) reached

    -- behind one that isn't readable
    pub comes_unreadable : (number : ℕ) → ((h : Head) → IsInChain (IsTextOf g) site line number c first h → ⊥) → (k : ℕ) (at : PlaceAt) → number + 1 ≤ k → ComesTo g site line k c at → ⊥
    comes_unreadable number never k at from (inl (zero, is)) = omega (arith, zero, from)
    comes_unreadable number never k at from (inr (m, reached, is)) = (let chain = (reached_here m k reached).ahead.before number (omega (arith, from)) in never chain.0 chain.1)

    -- behind one that would end behind the slice
    pub comes_beyond : (number : ℕ) → line.at.blocks < 16 + number * first.blocks + first.blocks → (k : ℕ) (at : PlaceAt) → number + 1 ≤ k → ComesTo g site line k c at → ⊥
    comes_beyond number beyond k at from (inl (zero, is)) = omega (arith, zero, from)
    comes_beyond number beyond k at from (inr (m, reached, is)) =
        let step = places_step number k first.blocks (omega (arith, from)) in
        let within = (reached_here m k reached).ahead.within in
        omega (arith, step, beyond, within)

    -- behind the last one that the first master tells of
    pub comes_behind : (number : ℕ) → 0 < number → first.count ≤ number → (k : ℕ) (at : PlaceAt) → number ≤ k → ComesTo g site line k c at → ⊥
    comes_behind number some last k at from (inl (zero, is)) = omega (arith, zero, from, some)
    comes_behind number some last k at from (inr (m, reached, is)) = (let less = (reached_here m k reached).numbered in omega (arith, less, last, from))
