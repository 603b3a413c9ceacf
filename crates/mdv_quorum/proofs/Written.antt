-- A place takes the last table, and that table becomes firm.
use Rattle.std.proofs.Common.{◌≡◌, ◌<◌, ◌≤◌, ◌-◌, ℕ, Bool, true, false, refl, ap, sym, ◌∙◌, subst, List, [], length, inl, inr, ◌⊎◌, Option, None, Some, arith, map, append-nil, cond, ◌||◌}
use Rattle.std.proofs.lemmas.Bool.{false≢true, cases_lt, or_left, or_right}
use Rattle.mdv_quorum.specs.Below.{Spot, SpotLists, Version, SpotState, Since, Never, Listed, Dropped, in_second, is_in, is_named, last_list, is_written, place_at, table_at, boot_of, put_at, with_newest, with_since, since_after}
use Rattle.mdv_votes.specs.Laws.{HasList}
use Rattle.mdv_votes.proofs.Quorums.{writes_meet_reads, lists_at, IsCommon, last_in, seats_itself}
use Rattle.mdv_votes.proofs.PlacesAt.{put_cases, put_used, map_at, map_used, spot_at}
use Rattle.mdv_quorum.proofs.More.{boots_rise, none_some}
use Rattle.mdv_quorum.proofs.Invariant.{newest, claim, holds, since, floor, Reaches, outdoes_as, boot_at, plan_at, Above, Late, IsCovered, PlacesOk, IsLive, TablesOk, AllCommon, PlansOk, IsPrefix, HasTaken, IsAlone}

pub some_same : {A : Type 0} (a b : A) → Some a ≡ Some b → a ≡ b
some_same a b e = cc

pub live_or_below : (firm : Option ℕ) (i : ℕ) → IsLive firm i ⊎ ((f : ℕ) × (firm ≡ Some f) × (i < f))
live_or_below None i = inl (λ f e. absurd (none_is f e))
  where
    none_is : (f : ℕ) → None ≡ Some f → ⊥
    none_is f e = cc
live_or_below (Some f) i = elim (cases_lt i f) [ inl less ↦ inr (f, refl, less) | inr more ↦ inl (λ g e. subst (λ (k : ℕ). k ≤ i) (some_same f g e) more) ]

-- a table names each place of its lists, and each of its mediators
pub named_on : (lists : SpotLists) (list : List Spot) (p : Spot) → HasList lists list → p.mediator ≡ false → is_in list p ≡ true → is_named lists p ≡ true
named_on lists list p has place on =
    let either : (is_in lists.first p || in_second lists.second p) ≡ true = elim has [
      | inl first ↦ or_left (is_in lists.first p) (in_second lists.second p) (subst (λ (l : List Spot). is_in l p ≡ true) (sym first) on)
      | inr second ↦ or_right (is_in lists.first p) (in_second lists.second p) (ap (λ (o : Option (List Spot)). in_second o p) second ∙ on)
    ] in
    ap (λ (b : Bool). cond b (is_in lists.mediators p) (is_in lists.first p || in_second lists.second p)) place ∙ either

named_seat : (lists : SpotLists) (p : Spot) → p.mediator ≡ true → is_in lists.mediators p ≡ true → is_named lists p ≡ true
named_seat lists p seat on = ap (λ (b : Bool). cond b (is_in lists.mediators p) (is_in lists.first p || in_second lists.second p)) seat ∙ on

pub write_places : (family : List Version) (firm : Option ℕ) (places : List SpotState) (deleted : Option Spot) (p : Spot) (set : Bool)
    → TablesOk set family → PlacesOk family firm places deleted → 0 < length family → deleted ≡ None
    → PlacesOk family firm (put_at places p (with_newest (length family - 1))) deleted
write_places family firm places deleted p set tables ok some there =
    let m = length family - 1 in
    let new = put_at places p (with_newest m) in
    let cases = λ (q : Spot). put_cases places p q (with_newest m) (λ x. refl) in
    let held = λ (q : Spot). elim (cases q) as (λ c. holds new q ≡ holds places q) [ inl a ↦ ap (λ (x : SpotState). x.holds) a.1 | inr b ↦ ap (λ (x : SpotState). x.holds) b.1 ] in
    let stands = λ (q : Spot). elim (cases q) as (λ c. since new q ≡ since places q) [ inl a ↦ ap (λ (x : SpotState). x.since) a.1 | inr b ↦ ap (λ (x : SpotState). x.since) b.1 ] in
    let floors = λ (q : Spot). elim (cases q) as (λ c. floor new q ≡ floor places q) [ inl a ↦ ap (λ (x : SpotState). x.floor) a.1 | inr b ↦ ap (λ (x : SpotState). x.floor) b.1 ] in
    let shows = λ (q : Spot). elim (cases q) as (λ c. (newest new q ≡ Some m) ⊎ (newest new q ≡ newest places q)) [ inl a ↦ inl (ap (λ (x : SpotState). x.newest) a.1) | inr b ↦ inr (ap (λ (x : SpotState). x.newest) b.1) ] in
    let claims = λ (q : Spot). elim (cases q) as (λ c. claim new q ≡ claim places q) [ inl a ↦ ap (λ (x : SpotState). x.claim) a.1 | inr b ↦ ap (λ (x : SpotState). x.claim) b.1 ] in
    record {
      firm_in = ok.firm_in;
      shows = λ q j e. elim (shows q) [
        | inl a ↦ let same : m ≡ j = some_same m j (sym a ∙ e) in omega (arith, same, some)
        | inr b ↦ ok.shows q j (sym b ∙ e)
      ];
      beaten = λ f i e h read knows r.
          let b = ok.beaten f i e h read knows r in
          let hf = ok.firm_in f e in
          record {
            place = b.place;
            was_read = b.was_read;
            named = b.named;
            late = elim b.late [ inl a ↦ inl (a.0, subst (λ (s : Since). Late s i) (sym (stands b.place)) a.1) | inr seat ↦ inr seat ];
            above = elim (shows b.place) [
              | inl a ↦ inl (subst (λ (o : Option ℕ). Above o i) (sym a) (omega (arith, h, hf)))
              | inr same ↦ outdoes_as b.place (place_at places b.place) (place_at new b.place) i same (floors b.place) b.above
            ];
          };
      numbers = λ i u read knows hi hu live r. elim (ok.numbers i u read knows hi hu live r) [
        | inl less ↦ inl less
        | inr known ↦ inr (
          known.0,
          known.1,
          elim (shows known.0) [
            | inl a ↦ inr (subst (λ (o : Option ℕ). boot_at family u ≤ boot_of family o) (sym a) (boots_rise set family tables u m (omega (arith, hu)) (omega (arith, some))))
            | inr same ↦
                subst (λ (c : ℕ). (boot_at family u ≤ c) ⊎ (boot_at family u ≤ boot_of family (newest new known.0))) (sym (claims known.0))
                (subst (λ (o : Option ℕ). (boot_at family u ≤ claim places known.0) ⊎ (boot_at family u ≤ boot_of family o)) (sym same) known.2)
          ],
        )
      ];
      listed = λ f q e has h. stands q ∙ ok.listed f q e has (sym (held q) ∙ h);
      listed_in = λ q e. ok.listed_in q (sym (stands q) ∙ e);
      dropped = λ q k e. ok.dropped q k (sym (stands q) ∙ e);
      low = λ q. subst (λ (n : ℕ). 0 < n → Reaches firm n) (sym (floors q)) (ok.low q);
      covered = λ f e still.
          let c = ok.covered f e still in (
            c.0,
            c.1,
            λ q took.
                let k = c.2 q took in
                elim (shows q) [
                  | inl a ↦ record { held = held q ∙ k.held; table = m; shows = a; above = (let hf = ok.firm_in f e in omega (arith, hf)); named = k.named }
                  | inr b ↦ record { held = held q ∙ k.held; table = k.table; shows = b ∙ k.shows; above = k.above; named = k.named }
                ],
          );
      gone = λ q e. absurd (none_some q (sym there ∙ e));
      unused = λ e. absurd (put_used places p (with_newest m) e);
    }

-- what a write leaves of those that took the table
pub write_taken : (family : List Version) (places : List SpotState) (p q : Spot) → HasTaken family places q → HasTaken family (put_at places p (with_newest (length family - 1))) q
write_taken family places p q t =
    elim (put_cases places p q (with_newest (length family - 1)) (λ x. refl)) [
      | inl a ↦ record { shows = ap (λ (x : SpotState). x.newest) a.1; held = ap (λ (x : SpotState). x.holds) a.1 ∙ t.held; named = t.named }
      | inr b ↦ record { shows = ap (λ (x : SpotState). x.newest) b.1 ∙ t.shows; held = ap (λ (x : SpotState). x.holds) b.1 ∙ t.held; named = t.named }
    ]

late_after : (m i : ℕ) (b : Bool) (s : Since) → i < m → Late s i → Late (since_after m b s) i
late_after m i true s h late = tt
late_after m i false Never h late = late
late_after m i false Listed h late = h
late_after m i false (Dropped k) h late = late

listed_true : (m : ℕ) (b : Bool) (s : Since) → since_after m b s ≡ Listed → b ≡ true
listed_true m true s e = refl
listed_true m false Never e = cc
listed_true m false Listed e = cc
listed_true m false (Dropped k) e = cc

dropped_cases : (m k : ℕ) (b : Bool) (s : Since) → since_after m b s ≡ Dropped k → (k ≡ m) ⊎ (s ≡ Dropped k)
dropped_cases m k true s e = absurd (never e)
  where
    never : Listed ≡ Dropped k → ⊥
    never x = cc
dropped_cases m k false Never e = inr e
dropped_cases m k false Listed e = inl (same (sym e))
  where
    same : Dropped k ≡ Dropped m → k ≡ m
    same x = cc
dropped_cases m k false (Dropped j) e = inr e

-- the last table is firm now
pub settle_places : (family : List Version) (firm : Option ℕ) (places : List SpotState) (deleted : Option Spot) (took : Spot → Bool) (set : Bool)
    → TablesOk set family → AllCommon family firm → PlacesOk family firm places deleted → 0 < length family → deleted ≡ None
    → ((p : Spot) → took p ≡ true → HasTaken family places p) → is_written (table_at family (length family - 1)) took ≡ true
    → IsAlone family firm (table_at family (length family - 1)) → PlacesOk family (Some (length family - 1)) (map (with_since (length family - 1) (last_list (lists_at family (length family - 1)))) places) deleted
settle_places family firm places deleted took set tables common ok some there taken written alone =
    let m = length family - 1 in
    let hm : m < length family = omega (arith, some) in
    let list = last_list (lists_at family m) in
    let new = map (with_since m list) places in
    let cases = λ (q : Spot). map_at places q (with_since m list) (λ x. refl) in
    let held = λ (q : Spot). elim (cases q) as (λ c. holds new q ≡ holds places q) [ inl a ↦ ap (λ (x : SpotState). x.holds) a | inr b ↦ ap (λ (x : SpotState). x.holds) b.0 ∙ sym (ap (λ (x : SpotState). x.holds) b.1) ] in
    let shows = λ (q : Spot). elim (cases q) as (λ c. newest new q ≡ newest places q) [ inl a ↦ ap (λ (x : SpotState). x.newest) a | inr b ↦ ap (λ (x : SpotState). x.newest) b.0 ∙ sym (ap (λ (x : SpotState). x.newest) b.1) ] in
    let floors = λ (q : Spot). elim (cases q) as (λ c. floor new q ≡ floor places q) [ inl a ↦ ap (λ (x : SpotState). x.floor) a | inr b ↦ ap (λ (x : SpotState). x.floor) b.0 ∙ sym (ap (λ (x : SpotState). x.floor) b.1) ] in
    let stands = λ (q : Spot). elim (cases q) as (λ c. (since new q ≡ since_after m (is_in list q) (since places q)) ⊎ ((since new q ≡ Never) × (since places q ≡ Never) × (holds places q ≡ false))) [
      | inl a ↦ inl (ap (λ (x : SpotState). x.since) a ∙ ap (λ (s : Spot). since_after m (is_in list s) (since places q)) (spot_at places q))
      | inr b ↦ inr (ap (λ (x : SpotState). x.since) b.0, ap (λ (x : SpotState). x.since) b.1, ap (λ (x : SpotState). x.holds) b.1)
    ] in
    let is_m = λ (f : ℕ) (e : Some m ≡ Some f). some_same m f e in
    let live_m : IsLive firm m = λ f e. (let hf = ok.firm_in f e in omega (arith, hf)) in
    let reaches_last : (k : ℕ) → Reaches firm k → Reaches (Some m) k = λ k r. (let hf = ok.firm_in r.0 r.1 in (m, refl, omega (arith, hf, r.2))) in
    record {
      firm_in = λ f e. let same = is_m f e in omega (arith, same, hm);
      shows = λ q j e. ok.shows q j (sym (shows q) ∙ e);
      beaten = λ f i e h.
          let him : i < m = (let same = is_m f e in omega (arith, same, h)) in
          let hi : i < length family = omega (arith, him, hm) in
          elim (live_or_below firm i) [
            | inl live ↦ λ read knows r.
                let c = common i m hi hm live live_m in
                let found = writes_meet_reads (table_at family i) (table_at family m) took read knows c.shared (λ half nobody. alone half nobody i hi live) written r in
                let q = found.0 in
                let t = taken q found.1 in
                let late : is_in c.shared.list q ≡ true → Late (since new q) i =
                λ on. elim (stands q) [
                  | inl s ↦ subst (λ (z : Since). Late z i) (sym s) (elim c.last [
                    | inl last ↦ subst (λ (b : Bool). Late (since_after m b (since places q)) i) (sym (subst (λ (l : List Spot). is_in l q ≡ true) last on)) tt
                    | inr old ↦
                        let is = ok.listed old.0 q old.1 (subst (λ (l : List Spot). is_in l q ≡ true) old.2 on) t.held in
                        late_after m i (is_in list q) (since places q) him (subst (λ (z : Since). Late z i) (sym is) tt)
                  ])
                  | inr blank ↦ absurd (false≢true (sym blank.2 ∙ t.held))
                ] in
                record {
                  place = q;
                  was_read = found.2;
                  named = elim found.3 [
                    | inl on ↦ named_on (lists_at family i) c.shared.list q c.shared.in_a ((tables.lists i hi).places c.shared.list q c.shared.in_a on) on
                    | inr seat ↦ named_seat (lists_at family i) q ((tables.lists i hi).seats q seat.0) seat.0
                  ];
                  late = elim found.3 [
                    | inl on ↦ inl ((tables.lists i hi).places c.shared.list q c.shared.in_a on, late on)
                    | inr seat ↦ inr ((tables.lists i hi).seats q seat.0, seat.1)
                  ];
                  above = inl (subst (λ (o : Option ℕ). Above o i) (sym (shows q ∙ t.shows)) him);
                }
            | inr below ↦ λ read knows r.
                let b = ok.beaten below.0 i below.1 below.2 read knows r in
                let late : Late (since places b.place) i → Late (since new b.place) i = λ was. elim (stands b.place) [
                  | inl s ↦ subst (λ (z : Since). Late z i) (sym s) (late_after m i (is_in list b.place) (since places b.place) him was)
                  | inr blank ↦ absurd (subst (λ (z : Since). Late z i) blank.1 was)
                ] in
                record {
                  place = b.place;
                  was_read = b.was_read;
                  named = b.named;
                  late = elim b.late [ inl a ↦ inl (a.0, late a.1) | inr seat ↦ inr seat ];
                  above = outdoes_as b.place (place_at places b.place) (place_at new b.place) i (shows b.place) (floors b.place) b.above;
                }
          ];
      numbers = λ i u read knows hi hu live r. inl (boots_rise set family tables u i (let up = live m refl in omega (arith, up, hu)) hi);
      listed = λ f q e has h. elim (stands q) [
        | inl s ↦ s ∙ ap (λ (b : Bool). since_after m b (since places q)) (subst (λ (k : ℕ). is_in (last_list (lists_at family k)) q ≡ true) (sym (is_m f e)) has)
        | inr blank ↦ absurd (false≢true (sym blank.2 ∙ sym (held q) ∙ h))
      ];
      listed_in = λ q e. elim (stands q) [
        | inl s ↦ (m, refl, listed_true m (is_in list q) (since places q) (sym s ∙ e))
        | inr blank ↦ absurd (not_listed (sym blank.0 ∙ e))
      ];
      dropped = λ q k e. elim (stands q) [
        | inl s ↦ elim (dropped_cases m k (is_in list q) (since places q) (sym s ∙ e)) [ inl same ↦ (m, refl, omega (arith, same)) | inr old ↦ reaches_last k (ok.dropped q k old) ]
        | inr blank ↦ absurd (not_dropped k (sym blank.0 ∙ e))
      ];
      low = λ q some_floor. subst (Reaches (Some m)) (sym (floors q)) (reaches_last (floor places q) (ok.low q (subst (λ (n : ℕ). 0 < n) (floors q) some_floor)));
      covered = λ f e still.
          subst (λ (k : ℕ). IsCovered family new k) (is_m f e) (
            took,
            written,
            λ q h.
                let t = taken q h in
                record { held = held q ∙ t.held; table = m; shows = shows q ∙ t.shows; above = omega arith; named = t.named },
          );
      gone = λ q e. absurd (none_some q (sym there ∙ e));
      unused = λ e. ok.unused (map_used places (with_since m list) e);
    }
  where
    not_listed : Never ≡ Listed → ⊥
    not_listed e = cc

    not_dropped : (k : ℕ) → Never ≡ Dropped k → ⊥
    not_dropped k e = cc

pub settle_taken : (family : List Version) (places : List SpotState) (q : Spot) (list : List Spot) → HasTaken family places q → HasTaken family (map (with_since (length family - 1) list) places) q
settle_taken family places q list t =
    elim (map_at places q (with_since (length family - 1) list) (λ x. refl)) [
      | inl a ↦ record { shows = ap (λ (x : SpotState). x.newest) a ∙ t.shows; held = ap (λ (x : SpotState). x.holds) a ∙ t.held; named = t.named }
      | inr b ↦ absurd (false≢true (sym (ap (λ (x : SpotState). x.holds) b.1) ∙ t.held))
    ]

pub itself_common : (family : List Version) (firm : Option ℕ) (lists : SpotLists) → IsCommon family firm lists lists
itself_common family firm lists = record {
  shared = record { list = last_list lists; in_a = last_in lists; in_b = last_in lists; seats = seats_itself lists.mediators };
  last = inl refl;
}

-- below the last table none is live any more
only_last : (family : List Version) (i : ℕ) → 0 < length family → i < length family → IsLive (Some (length family - 1)) i → i ≡ length family - 1
only_last family i some h live = let up = live (length family - 1) refl in omega (arith, up, h, some)

pub settle_common : (family : List Version) → 0 < length family → AllCommon family (Some (length family - 1))
settle_common family some i j hi hj li lj =
    let ei = only_last family i some hi li in
    let ej = only_last family j some hj lj in
    subst (λ (k : ℕ). IsCommon family (Some (length family - 1)) (lists_at family i) (lists_at family k)) (ei ∙ sym ej) (itself_common family (Some (length family - 1)) (lists_at family i))

pub prefix_itself : (xs : List ℕ) → IsPrefix xs xs
prefix_itself xs = ([], append-nil xs)

pub settle_plans : (family : List Version) (firm : Option ℕ) (log told : List ℕ) → 0 < length family → ((f : ℕ) → firm ≡ Some f → f < length family) → PlansOk family firm log told → PlansOk family (Some (length family - 1)) log told
settle_plans family firm log told some firm_in ok =
    let live_old : (i : ℕ) → i < length family → IsLive (Some (length family - 1)) i → IsLive firm i
    = λ i h live f e. (let same = only_last family i some h live in let hf = firm_in f e in omega (arith, same, hf)) in
    record {
      issued = λ i h live. ok.issued i h (live_old i h live);
      holds_told = λ i h live. ok.holds_told i h (live_old i h live);
      descends = λ f i e le h.
          let same_f = some_same (length family - 1) f e in
          let same : f ≡ i = omega (arith, same_f, le, h) in
          subst (λ (k : ℕ). IsPrefix (plan_at family f) (plan_at family k)) same (prefix_itself (plan_at family f));
      nothing = λ e. absurd (some_none e);
    }
  where
    some_none : Some (length family - 1) ≡ None → ⊥
    some_none e = cc
