-- What suffices with some places suffices with more of them.
use Rattle.std.proofs.Common.{◌≡◌, ◌≤◌, ◌*◌, ℕ, Bool, true, false, refl, ap, sym, ◌∙◌, subst, List, [], ◌∷◌, length, ◌&&◌, ◌||◌, cond, not, inl, inr, Option, None, Some, arith}
use Rattle.std.proofs.lemmas.Bool.{and_parts, and_from, or_left, or_right, or_cases, cases_Bool, ltb-true, leb-true, lt-ltb, le-leb, cond-true, cond-false}
use Rattle.std.specs.Prelude.{count_by}
use Rattle.std.specs.List.{list_any}
use Rattle.mdv_votes.specs.declared.spot.Spot.{Spot}
use Rattle.mdv_votes.specs.declared.spot.SpotLists.{SpotLists}
use Rattle.mdv_votes.specs.Spots.{is_in, is_majority, is_half, is_none, covers, covers_second, same_spot}
use Rattle.mdv_votes.specs.Quorum.{is_written_list, is_claimed_list, is_read_list}
use Rattle.mdv_votes.specs.Laws.{IsWithin, WritesGrow, ClaimsGrow, ReadsGrow}
use Rattle.mdv_votes.proofs.Meeting.{same_self, step_counted}

one_grows : (a b : Bool) → (a ≡ true → b ≡ true) → cond {A = ℕ} a 1 0 ≤ cond b 1 0
one_grows true b h = subst (λ (c : Bool). 1 ≤ cond {A = ℕ} c 1 0) (sym (h refl)) (omega arith)
one_grows false b h = omega arith

count_grows : (few more : Spot → Bool) (list : List Spot) → IsWithin few more → count_by few list ≤ count_by more list
count_grows few more [] h = omega arith
count_grows few more (x ∷ xs) h = omega (arith, step_counted few x xs, step_counted more x xs, one_grows (few x) (more x) (h x), count_grows few more xs h)

pub half_grows : (few more : Spot → Bool) (list : List Spot) → IsWithin few more → is_half few list ≡ true → is_half more list ≡ true
half_grows few more list h half =
    le-leb (length list) (2 * count_by more list) (omega (arith, leb-true (length list) (2 * count_by few list) half, count_grows few more list h))

pub majority_grows : (few more : Spot → Bool) (list : List Spot) → IsWithin few more → is_majority few list ≡ true → is_majority more list ≡ true
majority_grows few more list h most =
    lt-ltb (length list) (2 * count_by more list) (omega (arith, ltb-true (length list) (2 * count_by few list) most, count_grows few more list h))

-- what each list meets, where it meets this
covers_grow : (narrow wide : List Spot → Bool) (lists : SpotLists) → ((list : List Spot) → narrow list ≡ true → wide list ≡ true) → covers narrow lists ≡ true → covers wide lists ≡ true
covers_grow narrow wide lists h all =
    let parts = and_parts (narrow lists.first) (covers_second narrow lists.second) all in
    and_from (wide lists.first) (covers_second wide lists.second) (h lists.first parts.0) (second lists.second parts.1)
  where
    second : (o : Option (List Spot)) → covers_second narrow o ≡ true → covers_second wide o ≡ true
    second None e = refl
    second (Some list) e = h list e

written_list : (by_majority : Bool) (mediators : List Spot) (took more : Spot → Bool) (list : List Spot) → IsWithin took more
    → is_written_list by_majority mediators took list ≡ true → is_written_list by_majority mediators more list ≡ true
written_list by_majority mediators took more list h e =
    let backed : (Spot → Bool) → Bool = λ s. is_none mediators || is_majority s mediators in
    let rest : (Spot → Bool) → Bool = λ s. not by_majority && (is_half s list && backed s) in
    elim (or_cases (is_majority took list) (rest took) e) [
      | inl most ↦ or_left (is_majority more list) (rest more) (majority_grows took more list h most)
      | inr r ↦
          let a = and_parts (not by_majority) (is_half took list && backed took) r in
          let b = and_parts (is_half took list) (backed took) a.1 in
          let still : backed more ≡ true = elim (or_cases (is_none mediators) (is_majority took mediators) b.1) [
            | inl none ↦ or_left (is_none mediators) (is_majority more mediators) none
            | inr most ↦ or_right (is_none mediators) (is_majority more mediators) (majority_grows took more mediators h most)
          ] in
          or_right (is_majority more list) (rest more)
          (and_from (not by_majority) (is_half more list && backed more) a.0 (and_from (is_half more list) (backed more) (half_grows took more list h b.0) still))
    ]

pub writes_grow : WritesGrow
writes_grow t took more h =
    let test : (Spot → Bool) → List Spot → Bool = is_written_list t.by_majority t.lists.mediators in
    covers_grow (test took) (test more) t.lists (λ list. written_list t.by_majority t.lists.mediators took more list h)

claimed_list : (set : Bool) (mediators : List Spot) (claimed more : Spot → Bool) (list : List Spot) → IsWithin claimed more
    → is_claimed_list set mediators claimed list ≡ true → is_claimed_list set mediators more list ≡ true
claimed_list set mediators claimed more list h e =
    let backed : (Spot → Bool) → Bool = λ s. cond (is_none mediators) (not set) (is_majority s mediators) in
    elim (or_cases (is_majority claimed list) (is_half claimed list && backed claimed) e) [
      | inl most ↦ or_left (is_majority more list) (is_half more list && backed more) (majority_grows claimed more list h most)
      | inr r ↦
          let b = and_parts (is_half claimed list) (backed claimed) r in
          let still : backed more ≡ true = elim (cases_Bool (is_none mediators)) [
            | inl none ↦
                cond-true (is_none mediators) (not set) (is_majority more mediators) none
                ∙ sym (cond-true (is_none mediators) (not set) (is_majority claimed mediators) none) ∙ b.1
            | inr some ↦
                cond-false (is_none mediators) (not set) (is_majority more mediators) some
                ∙ majority_grows claimed more mediators h (sym (cond-false (is_none mediators) (not set) (is_majority claimed mediators) some) ∙ b.1)
          ] in
          or_right (is_majority more list) (is_half more list && backed more) (and_from (is_half more list) (backed more) (half_grows claimed more list h b.0) still)
    ]

pub claims_grow : ClaimsGrow
claims_grow set t claimed more h =
    let test : (Spot → Bool) → List Spot → Bool = is_claimed_list set t.lists.mediators in
    covers_grow (test claimed) (test more) t.lists (λ list. claimed_list set t.lists.mediators claimed more list h)

-- the same mediators know the same
same_seats : (read more knows : Spot → Bool) (list : List Spot) → ((m : Spot) → is_in list m ≡ true → read m ≡ more m)
    → list_any (λ m. more m && knows m) list ≡ list_any (λ m. read m && knows m) list
same_seats read more knows [] h = refl
same_seats read more knows (x ∷ xs) h =
    let first = h x (or_left (same_spot x x) (is_in xs x) (same_self x)) in
    ap (λ (b : Bool). (b && knows x) || list_any (λ m. more m && knows m) xs) (sym first)
    ∙ ap (λ (b : Bool). (read x && knows x) || b) (same_seats read more knows xs (λ m has. h m (or_right (same_spot x m) (is_in xs m) has)))

read_list : (mediators : List Spot) (read more knows : Spot → Bool) (list : List Spot) → IsWithin read more → ((m : Spot) → is_in mediators m ≡ true → read m ≡ more m)
    → is_read_list mediators read knows list ≡ true → is_read_list mediators more knows list ≡ true
read_list mediators read more knows list h same e =
    let denied : (Spot → Bool) → Bool = λ s. list_any (λ m. s m && knows m) mediators in
    let half : (Spot → Bool) → Bool = λ s. not (is_none mediators) && is_half s list in
    let asked : (Spot → Bool) → Bool = λ s. is_majority s mediators && not (denied s) in
    elim (or_cases (is_majority read list) (half read && asked read) e) [
      | inl most ↦ or_left (is_majority more list) (half more && asked more) (majority_grows read more list h most)
      | inr r ↦
          let a = and_parts (half read) (asked read) r in
          let b = and_parts (not (is_none mediators)) (is_half read list) a.0 in
          let c = and_parts (is_majority read mediators) (not (denied read)) a.1 in
          let still : asked more ≡ true =
          and_from (is_majority more mediators) (not (denied more)) (majority_grows read more mediators h c.0)
          (ap (λ (d : Bool). not d) (same_seats read more knows mediators same) ∙ c.1) in
          or_right (is_majority more list) (half more && asked more)
          (and_from (half more) (asked more) (and_from (not (is_none mediators)) (is_half more list) b.0 (half_grows read more list h b.1)) still)
    ]

pub reads_grow : ReadsGrow
reads_grow t read more knows h same =
    let test : (Spot → Bool) → List Spot → Bool = λ s. is_read_list t.lists.mediators s knows in
    covers_grow (test read) (test more) t.lists (λ list. read_list t.lists.mediators read more knows list h same)
