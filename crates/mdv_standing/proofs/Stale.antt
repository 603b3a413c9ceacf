-- What a boot read has a stale vote for the version that it chose, or none.
use Rattle.std.proofs.Common.{◌≡◌, ◌⊎◌, inl, inr, ℕ, zero, suc, ◌<◌, Bool, true, false, List, [], ◌∷◌, length, refl, sym, ap, subst, Contains, arith}
use Rattle.std.proofs.lemmas.Bool.{cases_eq, cases_lt, false≢true}
use Rattle.std.specs.Prelude.{slice_index_or}
use Rattle.mdv_standing.specs.Below.{Log, Mark, Seen, Site, Spot, is_named, shows, spot_seen}
use Rattle.mdv_standing.specs.Matching.{HasStaleVote, lists_of, spot_floor, version_at}

-- of the numbers below that one passes, or none does
below_or_not : (P : ℕ → Type 0) → ((i : ℕ) → P i ⊎ (P i → ⊥)) → (n : ℕ) → ((i : ℕ) × (i < n) × P i) ⊎ ((i : ℕ) → i < n → P i → ⊥)
below_or_not P decide zero = inr (λ i lt is. absurd (omega (arith, lt)))
below_or_not P decide (suc n) = elim (below_or_not P decide n) [
  | inl one ↦ inl (one.0, omega (arith, one.1), one.2)
  | inr none ↦ elim (decide n) [
    | inl is ↦ inl (n, omega arith, is)
    | inr isnt ↦ inr (λ i lt is. elim (cases_lt i n) [
      | inl less ↦ none i less is
      | inr more ↦ (let same : i ≡ n = omega (arith, lt, more) in isnt (subst P same is))
    ])
  ]
]

among_or_not : (P : Seen → Type 0) → ((s : Seen) → P s ⊎ (P s → ⊥)) → (seen : List Seen) → ((s : Seen) × Contains seen s × P s) ⊎ ((s : Seen) → Contains seen s → P s → ⊥)
among_or_not P decide [] = inr (λ s has. absurd (omega (arith, has.1)))
among_or_not P decide (x ∷ seen) = elim (decide x) [
  | inl is ↦ inl (x, (0, omega arith, refl), is)
  | inr isnt ↦ elim (among_or_not P decide seen) [
    | inl one ↦ (let has = one.1 in inl (one.0, (suc has.0, omega (arith, has.1), has.2), one.2))
    | inr none ↦ inr (λ s has is. by s is isnt none has.0 has.1 has.2)
  ]
] where
  by : (s : Seen) → P s → (P x → ⊥) → ((t : Seen) → Contains seen t → P t → ⊥) → (k : ℕ) → k < length (x ∷ seen) → slice_index_or (x ∷ seen) k s ≡ s → ⊥
  by s is isnt none zero lt same = isnt (subst P (sym same) is)
  by s is isnt none (suc k) lt same = none s (k, omega arith, same) is

marks_or_not : (a b : Mark) → (a ≡ b) ⊎ (a ≡ b → ⊥)
marks_or_not a b = elim (cases_eq a.boot b.boot) [
  | inl boot ↦ elim (cases_eq a.count b.count) [
    | inl count ↦ inl (λ i. record { boot = boot i; count = count i })
    | inr differ ↦ inr (λ same. differ (ap (λ (m : Mark). m.count) same))
  ]
  | inr differ ↦ inr (λ same. differ (ap (λ (m : Mark). m.boot) same))
]

bool_or_not : (b c : Bool) → (b ≡ c) ⊎ (b ≡ c → ⊥)
bool_or_not true true = inl refl
bool_or_not false false = inl refl
bool_or_not true false = inr (λ is. false≢true (sym is))
bool_or_not false true = inr (λ is. false≢true is)

module _ (site : Site) (log : Log) (mark : Mark) where
  -- the version of this number has the mark, and names the place
  abbrev Names : Spot → ℕ → Type 0
  Names p i = ((version_at log.family i).mark ≡ mark) × (is_named (lists_of site (version_at log.family i)) p ≡ true)

  names_or_not : (p : Spot) (i : ℕ) → Names p i ⊎ (Names p i → ⊥)
  names_or_not p i = elim (marks_or_not (version_at log.family i).mark mark) [
    | inl same ↦ elim (bool_or_not (is_named (lists_of site (version_at log.family i)) p) true) [ inl is ↦ inl (same, is) | inr isnt ↦ inr (λ both. isnt both.1) ]
    | inr differ ↦ inr (λ both. differ both.0)
  ]

  -- the replica has such a vote
  abbrev Votes : Seen → Type 0
  Votes s = (shows s.head ≡ false) × ((i : ℕ) × (i < spot_floor site log (spot_seen s)) × Names (spot_seen s) i)

  votes_or_not : (s : Seen) → Votes s ⊎ (Votes s → ⊥)
  votes_or_not s = elim (bool_or_not (shows s.head) false) [
    | inl empty ↦ elim (below_or_not (Names (spot_seen s)) (names_or_not (spot_seen s)) (spot_floor site log (spot_seen s))) [
      | inl one ↦ inl (empty, one)
      | inr none ↦ inr (λ is. none is.1.0 is.1.1 is.1.2)
    ]
    | inr shown ↦ inr (λ is. shown is.0)
  ]

  pub stale_or_not : (seen : List Seen) → HasStaleVote site log seen mark ⊎ (HasStaleVote site log seen mark → ⊥)
  stale_or_not seen = elim (among_or_not Votes votes_or_not seen) [
    | inl one ↦ inl (record { version = one.2.1.0; marked = one.2.1.2.0; replica = one.0; one_of = one.1; named = one.2.1.2.1; empty = one.2.0; later = one.2.1.1 })
    | inr none ↦ inr (λ stale. none stale.replica stale.one_of (stale.empty, (stale.version, stale.later, (stale.marked, stale.named))))
  ]
