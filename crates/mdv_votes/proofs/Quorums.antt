-- What is written or claimed meets what is read, on a list that the tables have in common or in a mediator.
use Rattle.std.proofs.Common.{◌≡◌, ℕ, Bool, true, false, refl, sym, ◌∙◌, subst, List, [], ◌∷◌, ◌&&◌, ◌||◌, cond, not, inl, inr, ◌⊎◌, Option, None, Some}
use Rattle.std.proofs.lemmas.Bool.{and_parts, or_cases, cases_Bool, false≢true, not-true, and_from, or_parts, false_from_ne_true, cond-true, cond-false}
use Rattle.std.specs.List.{list_any}
use Rattle.mdv_votes.specs.declared.spot.Spot.{Spot}
use Rattle.mdv_votes.specs.declared.spot.SpotLists.{SpotLists}
use Rattle.mdv_votes.specs.declared.version.Version.{Version}
use Rattle.mdv_votes.specs.Spots.{is_in, is_majority, is_half, is_none, covers, covers_second, last_list, last_or, same_spot}
use Rattle.mdv_votes.specs.Quorum.{is_read_list, is_written_list, is_claimed_list}
use Rattle.mdv_votes.specs.Family.{table_at}
use Rattle.mdv_votes.specs.Laws.{HasList, SeatsMeet, Shares, ListsAreShared, WritesMeetReads, ClaimsMeetReads, ReadsHaveOne}
use Rattle.mdv_votes.proofs.Meeting.{half_of_majority, meet, same_is}

abbrev pub lists_at : List Version → ℕ → SpotLists
lists_at family i = (table_at family i).lists

-- two tables share a list: the second one's last, or the firm one's last
pub record IsCommon (family : List Version) (firm : Option ℕ) (a b : SpotLists) : Type 0 where
  pub shared : Shares a b
  pub last : (shared.list ≡ last_list b) ⊎ ((f : ℕ) × (firm ≡ Some f) × (shared.list ≡ last_list (lists_at family f)))

pub last_in : (lists : SpotLists) → HasList lists (last_list lists)
last_in lists = at lists.first lists.second
  where
    at : (first : List Spot) (second : Option (List Spot)) → (first ≡ last_or first second) ⊎ (second ≡ Some (last_or first second))
    at first None = inl refl
    at first (Some list) = inr refl

-- a list meets itself
pub seats_itself : (list : List Spot) → SeatsMeet list list
seats_itself list took read most asked = meet took read list (half_of_majority took list most) asked

pub lists_are_shared : ListsAreShared
lists_are_shared lists = record { list = last_list lists; in_a = last_in lists; in_b = last_in lists; seats = seats_itself lists.mediators }

pub covers_at : (test : List Spot → Bool) (lists : SpotLists) (list : List Spot) → covers test lists ≡ true → HasList lists list → test list ≡ true
covers_at test lists list all has =
    let parts = and_parts (test lists.first) (covers_second test lists.second) all in
    elim has [
      | inl first ↦ subst (λ (l : List Spot). test l ≡ true) first parts.0
      | inr second ↦ subst (λ (o : Option (List Spot)). covers_second test o ≡ true) second parts.1
    ]

pub none_is : (list : List Spot) → is_none list ≡ true → list ≡ []
none_is [] h = refl
none_is (p ∷ ps) h = cc

-- a majority, or half and the rest
parted : (half most rest : Bool) → (most || (half && rest)) ≡ true → (most ≡ true) ⊎ ((half ≡ true) × (rest ≡ true))
parted half most rest h = elim (or_cases most (half && rest) h) [ inl a ↦ inl a | inr b ↦ inr (and_parts half rest b) ]

-- no mediator that was read knows a greater mark
none_knows : (read knows : Spot → Bool) (list : List Spot) (m : Spot) → list_any (λ p. read p && knows p) list ≡ false → is_in list m ≡ true → read m ≡ true → knows m ≡ false
none_knows read knows [] m none has r = absurd (false≢true has)
none_knows read knows (p ∷ ps) m none has r =
    let parts = or_parts (read p && knows p) (list_any (λ q. read q && knows q) ps) none in
    elim (or_cases (same_spot p m) (is_in ps m) has) [
      | inl is ↦
          false_from_ne_true (knows m) (λ k.
          false≢true (sym (subst (λ (q : Spot). (read q && knows q) ≡ false) (same_is p m is) parts.0) ∙ and_from (read m) (knows m) r k))
      | inr rest ↦ none_knows read knows ps m parts.1 rest r
    ]

-- the half that was written or claimed, and what stands behind it
record IsBacked (list mediators : List Spot) (took : Spot → Bool) (free : Type 0) : Type 0 where
  half : is_half took list ≡ true
  backed : (is_majority took list ≡ true) ⊎ (is_majority took mediators ≡ true) ⊎ (free × (mediators ≡ []))

-- such a half meets what was read
backed_meets : (list ours theirs : List Spot) (took read knows : Spot → Bool) (free : Type 0) → IsBacked list theirs took free → (free → theirs ≡ [] → ours ≡ [])
    → SeatsMeet ours theirs → is_read_list ours read knows list ≡ true
    → (p : Spot) × (took p ≡ true) × (read p ≡ true) × ((is_in list p ≡ true) ⊎ ((is_in ours p ≡ true) × (knows p ≡ false)))
backed_meets list ours theirs took read knows free b alone seats r =
    elim (or_cases (is_majority read list) ((not (is_none ours) && is_half read list) && (is_majority read ours && not (list_any (λ m. read m && knows m) ours))) r) [
      | inl most ↦ let f = meet took read list b.half most in (f.0, f.1, f.2, inl f.3)
      | inr rest ↦
          let parts = and_parts (not (is_none ours) && is_half read list) (is_majority read ours && not (list_any (λ m. read m && knows m) ours)) rest in
          let some = and_parts (not (is_none ours)) (is_half read list) parts.0 in
          let asked = and_parts (is_majority read ours) (not (list_any (λ m. read m && knows m) ours)) parts.1 in
          elim b.backed [
            | inl most ↦ let f = meet read took list some.1 most in (f.0, f.2, f.1, inl f.3)
            | inr more ↦ elim more [
              | inl most ↦
                  let f = seats took read most asked.0 in
                  (f.0, f.1, f.2, inr (f.3, none_knows read knows ours f.0 (not-true (list_any (λ m. read m && knows m) ours) asked.1) f.3 f.2))
              | inr nobody ↦
                  absurd (false≢true (subst (λ (l : List Spot). not (is_none l) ≡ true) (alone nobody.0 nobody.1) some.0))
            ]
          ]
    ]

written_backed : (by_majority : Bool) (mediators : List Spot) (took : Spot → Bool) (list : List Spot) → is_written_list by_majority mediators took list ≡ true → IsBacked list mediators took (by_majority ≡ false)
written_backed by_majority mediators took list h =
    elim (or_cases (is_majority took list) (not by_majority && (is_half took list && (is_none mediators || is_majority took mediators))) h) [
      | inl most ↦ record { half = half_of_majority took list most; backed = inl most }
      | inr rest ↦
          let a = and_parts (not by_majority) (is_half took list && (is_none mediators || is_majority took mediators)) rest in
          let b = and_parts (is_half took list) (is_none mediators || is_majority took mediators) a.1 in
          record {
            half = b.0;
            backed = elim (or_cases (is_none mediators) (is_majority took mediators) b.1) [
              | inl none ↦ inr (inr (not-true by_majority a.0, none_is mediators none))
              | inr most ↦ inr (inl most)
            ];
          }
    ]

claimed_backed : (set : Bool) (mediators : List Spot) (took : Spot → Bool) (list : List Spot) → is_claimed_list set mediators took list ≡ true → IsBacked list mediators took (set ≡ false)
claimed_backed set mediators took list h =
    elim (or_cases (is_majority took list) (is_half took list && cond (is_none mediators) (not set) (is_majority took mediators)) h) [
      | inl most ↦ record { half = half_of_majority took list most; backed = inl most }
      | inr rest ↦
          let b = and_parts (is_half took list) (cond (is_none mediators) (not set) (is_majority took mediators)) rest in
          record {
            half = b.0;
            backed = elim (cases_Bool (is_none mediators)) [
              | inl none ↦ inr (inr (not-true set (sym (cond-true (is_none mediators) (not set) (is_majority took mediators) none) ∙ b.1), none_is mediators none))
              | inr some ↦ inr (inl (sym (cond-false (is_none mediators) (not set) (is_majority took mediators) some) ∙ b.1))
            ];
          }
    ]

pub writes_meet_reads : WritesMeetReads
writes_meet_reads a b took read knows shared alone written reads =
    backed_meets shared.list a.lists.mediators b.lists.mediators took read knows (b.by_majority ≡ false)
    (written_backed b.by_majority b.lists.mediators took shared.list
    (covers_at (is_written_list b.by_majority b.lists.mediators took) b.lists shared.list written shared.in_b))
    alone shared.seats
    (covers_at (is_read_list a.lists.mediators read knows) a.lists shared.list reads shared.in_a)

pub claims_meet_reads : ClaimsMeetReads
claims_meet_reads set a b claimed read knows shared alone written reads =
    let found = backed_meets shared.list a.lists.mediators b.lists.mediators claimed read knows (set ≡ false)
    (claimed_backed set b.lists.mediators claimed shared.list
    (covers_at (is_claimed_list set b.lists.mediators claimed) b.lists shared.list written shared.in_b))
    (λ e none. alone e) shared.seats
    (covers_at (is_read_list a.lists.mediators read knows) a.lists shared.list reads shared.in_a) in
    (found.0, found.1, found.2)

-- more than half of a list is never nobody
one_of : (read : Spot → Bool) (list : List Spot) → is_majority read list ≡ true → (p : Spot) × (read p ≡ true)
one_of read list most = let found = meet read read list (half_of_majority read list most) most in (found.0, found.1)

pub reads_have_one : ReadsHaveOne
reads_have_one t read knows reads =
    let seats = t.lists.mediators in
    let list = t.lists.first in
    let first = covers_at (is_read_list seats read knows) t.lists list reads (inl refl) in
    let denied = list_any (λ m. read m && knows m) seats in
    elim (parted (not (is_none seats) && is_half read list) (is_majority read list) (is_majority read seats && not denied) first) [
      | inl most ↦ one_of read list most
      | inr rest ↦ one_of read seats (and_parts (is_majority read seats) (not denied) rest.1).0
    ]
