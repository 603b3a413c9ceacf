-- Entries need each other as the places do that they are by number.
use Rattle.std.proofs.Common.{◌≡◌, ◌<◌, ◌+◌, ◌++◌, ◌⊎◌, ℕ, zero, suc, Option, None, Some, List, [], ◌∷◌, length, map, take, get_or, refl, sym, ◌∙◌, ap, subst, inl, inr, arith}
use Rattle.std.specs.Prelude.{Contains, IsSome, slice_get}
use Rattle.std.specs.List.{filter_map, cons_option}
use Rattle.std.proofs.lemmas.Bool.{cases_lt}
use Rattle.std.proofs.lemmas.List.{get_or_past, get_or-take, get_or_append_left, length-map, length-take-le, length_push}
use Rattle.std.proofs.lemmas.Option.{slice_get_cases, slice_get_read, slice_get_within, get_or_from_slice_get}
use Rattle.mdv_base.specs.declared.name.Named.{Named}
use Rattle.mdv_tab.specs.declared.entry.Entry.{Entry}
use Rattle.mdv_tab.specs.declared.graph.Graph.{Graph}
use Rattle.mdv_tab.specs.declared.graph.Place.{Place}
use Rattle.mdv_tab.specs.declared.index.Index.{Index}
use Rattle.mdv_tab.specs.Graph.{AreUsers}
use Rattle.mdv_tab.specs.Index.{number_of, index_len, IsIndexOf}
use Rattle.mdv_tab.specs.Making.{made_at, makes_of, stands_at, count_of, name_count, NeedsIn, IsGraph}
use Rattle.mdv_tab.specs.Need.{made_number, IsPlaceOf, ArePlacesOf}
use Rattle.mdv_tab.specs.Order.{entry_set, makes, stands_on, Needs, Waits, IsNext, IsOrder}
use Rattle.mdv_tab.proofs.Graphs.{nothing_in, within_lists}
use Rattle.mdv_tab.proofs.Indexes.{same_name}
use Rattle.mdv_tab.proofs.Makings.{in_cons, part_at, same_at, made_here, stands_here}

-- an order by one relation is one by another that is the same
waits_by : (P Q : ℕ → ℕ → Type 0) (n : ℕ) (made : List ℕ) (i : ℕ) → ((i j : ℕ) → P i j → Q i j) → Waits P n made i → Waits Q n made i
waits_by P Q n made i to waits = (waits.0, waits.1, to i waits.0 waits.2)

next_by : (P Q : ℕ → ℕ → Type 0) (n : ℕ) (made : List ℕ) (i : ℕ) → ((i j : ℕ) → P i j → Q i j) → ((i j : ℕ) → Q i j → P i j) → IsNext P n made i → IsNext Q n made i
next_by P Q n made i to from next = record {
  remains = next.remains;
  first = elim next.first [
    | inl free ↦ inl (λ waits. free.0 (waits_by Q P n made i from waits), λ j lt remains. waits_by P Q n made j to (free.1 j lt remains))
    | inr all ↦ inr (λ j remains. waits_by P Q n made j to (all.0 j remains), all.1)
  ];
}

pub order_by : (P Q : ℕ → ℕ → Type 0) (n m : ℕ) (order : List ℕ) → n ≡ m → ((i j : ℕ) → P i j → Q i j) → ((i j : ℕ) → Q i j → P i j) → IsOrder P n order → IsOrder Q m order
order_by P Q n m order same to from is =
    let F : ℕ → Type 0 = λ c. IsOrder Q c order in
    subst F same (record { all = is.all; each = λ k within. next_by P Q n (take k order) _ to from (is.each k within) })

-- what a filter gives stands for something in the list
kept_cases : (o : Option ℕ) (rest : List ℕ) (n : ℕ) → Contains (cons_option o rest) n → (o ≡ Some n) ⊎ Contains rest n
kept_cases None rest n has = inr has
kept_cases (Some m) rest n has = elim (in_cons rest m n has) [ inl later ↦ inr later | inr is ↦ inl (ap Some is) ]

kept_here : (o : Option ℕ) (rest : List ℕ) (n : ℕ) → o ≡ Some n → Contains (cons_option o rest) n
kept_here None rest n is = cc
kept_here (Some m) rest n is = (0, omega arith, cc)

kept_rest : (o : Option ℕ) (rest : List ℕ) (n : ℕ) → Contains rest n → Contains (cons_option o rest) n
kept_rest None rest n has = has
kept_rest (Some m) rest n has = (suc has.0, omega (arith, has.1), has.2)

given_by : {X : Type 0} (h : X → Option ℕ) (xs : List X) (n : ℕ) → Contains (filter_map h xs) n → (x : X) × Contains xs x × (h x ≡ Some n)
given_by h [] n has = absurd (nothing_in n has)
given_by h (x ∷ xs) n has = elim (kept_cases (h x) (filter_map h xs) n has) [
  | inl is ↦ (x, (0, omega arith, refl), is)
  | inr later ↦ let rest = given_by h xs n later in (rest.0, (suc rest.1.0, omega (arith, rest.1.1), rest.1.2), rest.2)
]

gives_at : {X : Type 0} (h : X → Option ℕ) (xs : List X) (x : X) (n k : ℕ) → k < length xs → get_or xs k x ≡ x → h x ≡ Some n → Contains (filter_map h xs) n
gives_at h [] x n k within is at = absurd (omega arith)
gives_at h (y ∷ ys) x n zero within is at = kept_here (h y) (filter_map h ys) n (ap h is ∙ at)
gives_at h (y ∷ ys) x n (suc k) within is at = kept_rest (h y) (filter_map h ys) n (gives_at h ys x n k (omega arith) is at)

gives : {X : Type 0} (h : X → Option ℕ) (xs : List X) (x : X) (n : ℕ) → Contains xs x → h x ≡ Some n → Contains (filter_map h xs) n
gives h xs x n has at = gives_at h xs x n has.0 has.1 has.2 at

some_of : (o : Option ℕ) → IsSome o → (n : ℕ) × (o ≡ Some n)
some_of None some = cc
some_of (Some n) some = (n, refl)

made_some : (index : Index) (e : Entry) (o : Option Named) (n : ℕ) → made_number index e o ≡ Some n → (named : Named) × (o ≡ Some named) × (number_of index (entry_set e) named ≡ Some n)
made_some index e None n is = cc
made_some index e (Some named) n is = (named, refl, is)

made_within : (l : List (Option ℕ)) (j n : ℕ) → get_or l j None ≡ Some n → j < length l
made_within l j n is = elim (cases_lt j (length l)) [ inl lt ↦ lt | inr past ↦ let none = get_or_past l j None past in cc ]

-- each number of a name is below their count
pub stands_within : (es : List Entry) (ps : List Place) (index : Index) → IsIndexOf es index → ArePlacesOf index es ps → (n : ℕ) → n ≡ index_len index → (i x : ℕ) → Contains (get_or (map (λ p. p.stands.items) ps) i []) x → x < n
stands_within es ps index names places n len i x has =
    let within : i < length ps = let lt = within_lists _ i x has in omega (arith, lt, length-map ps (λ p. p.stands.items)) in
    elim (slice_get_cases ps i).1 [
      | inr past ↦ absurd (omega (arith, past.0, within))
      | inl p ↦ elim (slice_get_cases es i).1 [
        | inr past ↦ absurd (omega (arith, past.0, within, places.same))
        | inl e ↦
            let at = part_at (λ (q : Place). q.stands.items) ps i p.0 [] within (sym p.3) in
            let F : List ℕ → Type 0 = λ l. Contains l x in
            let named = given_by (λ n. number_of index (entry_set e.0) n) (stands_on e.0) x (subst F (at ∙ (places.each i e.0 p.0 e.2 p.2).stands_is) has) in
            let lt = names.sound.within _ x named.2 in
            omega (arith, lt, len)
      ]
    ]

module _ (es : List Entry) (g : Graph) (index : Index) (names : IsIndexOf es index) (places : ArePlacesOf index es g.places.items) where
  entry_at : (i : ℕ) → i < count_of g → (e : Entry) × (slice_get es i ≡ Some e)
  entry_at i within = elim (slice_get_cases es i).1 [ inl there ↦ (there.0, there.2) | inr past ↦ absurd (omega (arith, past.0, within, places.same)) ]

  place_at : (i : ℕ) → i < count_of g → (p : Place) × (slice_get g.places.items i ≡ Some p) × (stands_at g i ≡ p.stands.items) × (made_at g i ≡ p.makes)
  place_at i within = elim (slice_get_cases g.places.items i).1 [
    | inl there ↦ (there.0, there.2, stands_here g i there.0 within (sym there.3), made_here g i there.0 within (sym there.3))
    | inr past ↦ absurd (omega (arith, past.0, within))
  ]

  pub needs_entry : (i j : ℕ) → NeedsIn g i j → Needs es i j
  needs_entry i j need =
      let in_i : i < count_of g = let lt = within_lists _ i need.name need.stands in omega (arith, lt, length-map g.places.items (λ p. p.stands.items)) in
      let in_j : j < count_of g = let lt = made_within (makes_of g) j need.name need.made in omega (arith, lt, length-map g.places.items (λ p. p.makes)) in
      let p = place_at i in_i in
      let q = place_at j in_j in
      let e = entry_at i in_i in
      let f = entry_at j in_j in
      let one = places.each i e.0 p.0 e.1 p.1 in
      let two = places.each j f.0 q.0 f.1 q.1 in
      let F : List ℕ → Type 0 = λ l. Contains l need.name in
      let named = given_by (λ n. number_of index (entry_set e.0) n) (stands_on e.0) need.name (subst F (p.2 ∙ one.stands_is) need.stands) in
      let made = made_some index f.0 (makes f.0) need.name (sym (q.3 ∙ two.makes_is) ∙ need.made) in
      let same = same_name (entry_set e.0) (entry_set f.0) named.0 made.0 (names.sound.apart _ _ need.name named.2 made.2) in
      record {
        other = need.other;
        entry = e.0;
        need = f.0;
        at = e.1;
        below = f.1;
        needs = record { named = named.0; stands = named.1; made = made.1 ∙ ap Some (sym same.1); set = same.0 };
      }

  pub needs_place : (i j : ℕ) → Needs es i j → NeedsIn g i j
  needs_place i j need =
      let in_i : i < count_of g = let lt = slice_get_within es i need.entry need.at in omega (arith, lt, places.same) in
      let in_j : j < count_of g = let lt = slice_get_within es j need.need need.below in omega (arith, lt, places.same) in
      let p = place_at i in_i in
      let q = place_at j in_j in
      let one = places.each i need.entry p.0 need.at p.1 in
      let two = places.each j need.need q.0 need.below q.1 in
      let named = need.needs.named in
      let among : Contains es need.need = (j, slice_get_within es j need.need need.below, get_or_from_slice_get es j need.need need.need need.below) in
      let number = some_of _ (names.made need.need among named need.needs.made) in
      let here : number_of index (entry_set need.entry) named ≡ Some number.0 = ap (λ (s : Option (List ℕ)). number_of index s named) need.needs.set ∙ number.1 in
      let F : List ℕ → Type 0 = λ l. Contains l number.0 in
      record {
        other = need.other;
        name = number.0;
        stands = subst F (sym (p.2 ∙ one.stands_is)) (gives (λ n. number_of index (entry_set need.entry) n) (stands_on need.entry) named number.0 need.needs.stands here);
        made = q.3 ∙ two.makes_is ∙ ap (λ (o : Option Named). made_number index need.need o) need.needs.made ∙ number.1;
      }

  number_within : (e : Entry) (o : Option Named) (x n : ℕ) → n ≡ index_len index → made_number index e o ≡ Some x → x < n
  number_within e o x n len is = let made = made_some index e o x is in let lt = names.sound.within _ x made.2 in omega (arith, lt, len)

  stands_below : (n : ℕ) → n ≡ index_len index → (i x : ℕ) → Contains (stands_at g i) x → x < n
  stands_below = stands_within es g.places.items index names places

  makes_within : (n : ℕ) → n ≡ index_len index → (i x : ℕ) → made_at g i ≡ Some x → x < n
  makes_within n len i x made =
      let in_i : i < count_of g = let lt = made_within (makes_of g) i x made in omega (arith, lt, length-map g.places.items (λ p. p.makes)) in
      let p = place_at i in_i in
      let e = entry_at i in_i in
      number_within e.0 (makes e.0) x n len (sym (p.3 ∙ (places.each i e.0 p.0 e.1 p.1).makes_is) ∙ made)

  pub is_graph : (n : ℕ) → n ≡ index_len index → AreUsers n (map (λ p. p.stands.items) g.places.items) (map (λ u. u.items) g.users.items) → IsGraph g
  is_graph n len users =
      let same : n ≡ name_count g = sym users.same ∙ length-map g.users.items (λ u. u.items) in
      record {
        makes = λ i x made. let lt = makes_within n len i x made in omega (arith, lt, same);
        stands = λ i x has. let lt = stands_below n len i x has in omega (arith, lt, same);
        users = users.each;
        within = λ i x has. let lt = users.within i x has in omega (arith, lt, length-map g.places.items (λ p. p.stands.items));
      }

get_or-append_end : {X : Type 0} (xs : List X) (x : X) (k : ℕ) (d : X) → length xs ≡ k → get_or (xs ++ x ∷ []) k d ≡ x
get_or-append_end [] x zero d is = refl
get_or-append_end [] x (suc k) d is = absurd (omega arith)
get_or-append_end (y ∷ ys) x zero d is = absurd (omega arith)
get_or-append_end (y ∷ ys) x (suc k) d is = get_or-append_end ys x k d (omega arith)

-- one entry more is a place
pub places_more :
    (index : Index) (es : List Entry) (old : List Place) (k : ℕ) (e : Entry) (p : Place) → k < length es → e ≡ get_or es k e → ArePlacesOf index (take k es) old → IsPlaceOf index e p → ArePlacesOf index (take (k + 1) es) (old ++ p ∷ [])
places_more index es old k e p within is so_far here =
    let short : length (take k es) ≡ k = length-take-le k es (omega arith) in
    let long : length (take (k + 1) es) ≡ k + 1 = length-take-le (k + 1) es (omega arith) in
    let before : length old ≡ k = so_far.same ∙ short in
    record {
      same = let more = length_push old p in omega (arith, before, long, more);
      each = λ i f q at_f at_q.
          let inside = slice_get_within (take (k + 1) es) i f at_f in
          let is_f : get_or es i f ≡ f = sym (get_or-take (k + 1) es i f (omega (arith, inside, long))) ∙ get_or_from_slice_get (take (k + 1) es) i f f at_f in
          let is_q : get_or (old ++ p ∷ []) i q ≡ q = get_or_from_slice_get (old ++ p ∷ []) i q q at_q in
          elim (cases_lt i k) [
            | inl lt ↦
                let f_at : f ≡ get_or (take k es) i f = sym is_f ∙ sym (get_or-take k es i f lt) in
                let q_at : q ≡ get_or old i q = sym is_q ∙ get_or_append_left old (p ∷ []) q i (omega (arith, before, lt)) in
                so_far.each i f q (slice_get_read (take k es) k i f (sym short) lt f_at) (slice_get_read old k i q (sym before) lt q_at)
            | inr ge ↦
                let end : k ≡ i = omega (arith, ge, inside, long) in
                let is_e : e ≡ f = is ∙ same_at es k e f within ∙ ap (λ (j : ℕ). get_or es j f) end ∙ is_f in
                let is_p : p ≡ q = sym (get_or-append_end old p k q before) ∙ ap (λ (j : ℕ). get_or (old ++ p ∷ []) j q) end ∙ is_q in
                let F : Entry → Type 0 = λ x. IsPlaceOf index x p in
                let G : Place → Type 0 = λ x. IsPlaceOf index f x in
                subst G is_p (subst F is_e here)
          ];
    }
