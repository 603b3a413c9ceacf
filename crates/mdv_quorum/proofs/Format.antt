-- A place or a seat is formatted.
use Rattle.std.proofs.Common.{◌≡◌, ◌<◌, ◌≤◌, ◌-◌, ℕ, Bool, true, false, refl, ap, sym, ◌∙◌, subst, List, length, inl, inr, ◌⊎◌, Option, None, Some, arith}
use Rattle.std.proofs.lemmas.Bool.{false≢true}
use Rattle.mdv_quorum.specs.Below.{Spot, SpotLists, Version, SpotState, Since, Never, Listed, Dropped, is_in, is_named, last_list, raised, boot_of, put_at, formatted}
use Rattle.mdv_votes.proofs.PlacesAt.{put_cases, put_used}
use Rattle.mdv_votes.proofs.Quorums.{lists_at, last_in}
use Rattle.mdv_quorum.proofs.More.{none_some}
use Rattle.mdv_quorum.proofs.Written.{named_on, some_same}
use Rattle.mdv_quorum.proofs.Invariant.{since, floor, boot_at, Above, Late, Outdoes, Reaches, raised_low, PlacesOk, TablesOk}

-- a place of the last list is named
named_last : (lists : SpotLists) (p : Spot) → p.mediator ≡ false → is_in (last_list lists) p ≡ true → is_named lists p ≡ true
named_last lists p place has = named_on lists (last_list lists) p (last_in lists) place has

-- a place that is no longer listed was dropped by a table above each for which it is late
late_raised : (n i : ℕ) (s : Since) → (s ≡ Listed → ⊥) → Late s i → i < raised n s
late_raised n i Never listed late = absurd late
late_raised n i Listed listed late = absurd (listed refl)
late_raised n i (Dropped m) listed late = omega (arith, late)

-- the floors behind a format
low_formatted : (family : List Version) (firm : Option ℕ) (places : List SpotState) (deleted : Option Spot) → PlacesOk family firm places deleted → (p : Spot) (n : ℕ) (o : Option ℕ) (q : Spot)
    → 0 < floor (put_at places p (formatted n o)) q → Reaches firm (floor (put_at places p (formatted n o)) q)
low_formatted family firm places deleted ok p n o q =
    elim (put_cases places p q (formatted n o) (λ x. refl)) [
      | inl a ↦ subst (λ (k : ℕ). 0 < k → Reaches firm k) (sym (ap (λ (x : SpotState). x.floor) a.1)) (raised_low firm (floor places q) (since places q) (ok.low q) (ok.dropped q))
      | inr b ↦ subst (λ (k : ℕ). 0 < k → Reaches firm k) (sym (ap (λ (x : SpotState). x.floor) b.1)) (ok.low q)
    ]

none_is : (j : ℕ) → None ≡ Some j → ⊥
none_is j e = cc

pub format_places : (family : List Version) (firm : Option ℕ) (places : List SpotState) (deleted : Option Spot) (p : Spot) (n : ℕ) (set : Bool)
    → TablesOk set family → PlacesOk family firm places deleted → deleted ≡ None → p.mediator ≡ false
    → ((u : ℕ) → u < length family → boot_at family u ≤ n)
    → ((f : ℕ) → firm ≡ Some f → is_named (lists_at family f) p ≡ false)
    → PlacesOk family firm (put_at places p (formatted n None)) deleted
format_places family firm places deleted p n set tables ok there place high free =
    let new = put_at places p (formatted n None) in
    let cases = λ (q : Spot). put_cases places p q (formatted n None) (λ x. refl) in
    let stands = λ (q : Spot). elim (cases q) as (λ c. since new q ≡ since places q) [ inl a ↦ ap (λ (x : SpotState). x.since) a.1 | inr b ↦ ap (λ (x : SpotState). x.since) b.1 ] in
    let not_listed : since places p ≡ Listed → ⊥ = λ e. (let l = ok.listed_in p e in false≢true (sym (free l.0 l.1) ∙ named_last (lists_at family l.0) p place l.2)) in
    record {
      firm_in = ok.firm_in;
      shows = λ q j e. elim (cases q) [
        | inl a ↦ absurd (none_is j (sym (ap (λ (x : SpotState). x.newest) a.1) ∙ e))
        | inr b ↦ ok.shows q j (sym (ap (λ (x : SpotState). x.newest) b.1) ∙ e)
      ];
      beaten = λ f i e h read knows r.
          let b = ok.beaten f i e h read knows r in
          record {
            place = b.place;
            was_read = b.was_read;
            named = b.named;
            late = elim b.late [ inl late ↦ inl (late.0, subst (λ (s : Since). Late s i) (sym (stands b.place)) late.1) | inr seat ↦ inr seat ];
            above = elim (cases b.place) [
              | inl a ↦ elim b.late [
                | inl late ↦
                    let was = subst (λ (s : Spot). Late (since places s) i) (sym a.0) late.1 in
                    let up = late_raised (floor places p) i (since places p) not_listed was in
                    let now = subst (λ (s : Spot). i < raised (floor places s) (since places s)) a.0 up in
                    inr (late.0, ap (λ (x : SpotState). x.newest) a.1, subst (λ (n : ℕ). i < n) (sym (ap (λ (x : SpotState). x.floor) a.1)) now)
                | inr seat ↦ absurd (false≢true (sym place ∙ ap (λ (s : Spot). s.mediator) a.0 ∙ seat.0))
              ]
              | inr apart ↦ subst (λ (x : SpotState). Outdoes b.place x i) (sym apart.1) b.above
            ];
          };
      numbers = λ i u read knows hi hu live r. elim (ok.numbers i u read knows hi hu live r) [
        | inl less ↦ inl less
        | inr known ↦ inr (
          known.0,
          known.1,
          elim (cases known.0) [
            | inl a ↦ inl (subst (λ (c : ℕ). boot_at family u ≤ c) (sym (ap (λ (x : SpotState). x.claim) a.1)) (high u hu))
            | inr b ↦ subst (λ (x : SpotState). (boot_at family u ≤ x.claim) ⊎ (boot_at family u ≤ boot_of family x.newest)) (sym b.1) known.2
          ],
        )
      ];
      listed = λ f q e has held. elim (cases q) [
        | inl a ↦ absurd (false≢true (sym (free f e) ∙ named_last (lists_at family f) p place (subst (λ (s : Spot). is_in (last_list (lists_at family f)) s ≡ true) (sym a.0) has)))
        | inr b ↦ ap (λ (x : SpotState). x.since) b.1 ∙ ok.listed f q e has (sym (ap (λ (x : SpotState). x.holds) b.1) ∙ held)
      ];
      listed_in = λ q e. ok.listed_in q (sym (stands q) ∙ e);
      dropped = λ q k e. ok.dropped q k (sym (stands q) ∙ e);
      low = low_formatted family firm places deleted ok p n None;
      covered = λ f e still.
          let c = ok.covered f e still in (
            c.0,
            c.1,
            λ q took.
                let k = c.2 q took in
                elim (cases q) [
                  | inl a ↦ absurd (false≢true (sym (free f e) ∙ subst (λ (s : Spot). is_named (lists_at family f) s ≡ true) (sym a.0) k.named))
                  | inr b ↦ record { held = ap (λ (x : SpotState). x.holds) b.1 ∙ k.held; table = k.table; shows = ap (λ (x : SpotState). x.newest) b.1 ∙ k.shows; above = k.above; named = k.named }
                ],
          );
      gone = λ q e. absurd (none_some q (sym there ∙ e));
      unused = λ e. absurd (put_used places p (formatted n None) e);
    }

pub seat_places : (family : List Version) (firm : Option ℕ) (places : List SpotState) (deleted : Option Spot) (p : Spot) (n : ℕ) (set : Bool)
    → TablesOk set family → PlacesOk family firm places deleted → deleted ≡ None → p.mediator ≡ true → 0 < length family
    → ((u : ℕ) → u < length family → boot_at family u ≤ n)
    → ((f : ℕ) → firm ≡ Some f → is_named (lists_at family f) p ≡ false)
    → PlacesOk family firm (put_at places p (formatted n (Some (length family - 1)))) deleted
seat_places family firm places deleted p n set tables ok there seat some high free =
    let m = length family - 1 in
    let new = put_at places p (formatted n (Some m)) in
    let cases = λ (q : Spot). put_cases places p q (formatted n (Some m)) (λ x. refl) in
    let stands = λ (q : Spot). elim (cases q) as (λ c. since new q ≡ since places q) [ inl a ↦ ap (λ (x : SpotState). x.since) a.1 | inr b ↦ ap (λ (x : SpotState). x.since) b.1 ] in
    record {
      firm_in = ok.firm_in;
      shows = λ q j e. elim (cases q) [
        | inl a ↦ let same : m ≡ j = some_same m j (sym (ap (λ (x : SpotState). x.newest) a.1) ∙ e) in omega (arith, same, some)
        | inr b ↦ ok.shows q j (sym (ap (λ (x : SpotState). x.newest) b.1) ∙ e)
      ];
      beaten = λ f i e h read knows r.
          let b = ok.beaten f i e h read knows r in
          let hf = ok.firm_in f e in
          record {
            place = b.place;
            was_read = b.was_read;
            named = b.named;
            late = elim b.late [ inl late ↦ inl (late.0, subst (λ (s : Since). Late s i) (sym (stands b.place)) late.1) | inr is ↦ inr is ];
            above = elim (cases b.place) [
              | inl a ↦ inl (subst (λ (o : Option ℕ). Above o i) (sym (ap (λ (x : SpotState). x.newest) a.1)) (omega (arith, h, hf)))
              | inr apart ↦ subst (λ (x : SpotState). Outdoes b.place x i) (sym apart.1) b.above
            ];
          };
      numbers = λ i u read knows hi hu live r. elim (ok.numbers i u read knows hi hu live r) [
        | inl less ↦ inl less
        | inr known ↦ inr (
          known.0,
          known.1,
          elim (cases known.0) [
            | inl a ↦ inl (subst (λ (c : ℕ). boot_at family u ≤ c) (sym (ap (λ (x : SpotState). x.claim) a.1)) (high u hu))
            | inr b ↦ subst (λ (x : SpotState). (boot_at family u ≤ x.claim) ⊎ (boot_at family u ≤ boot_of family x.newest)) (sym b.1) known.2
          ],
        )
      ];
      listed = λ f q e has held. elim (cases q) [
        | inl a ↦ absurd (false≢true (sym ((tables.lists f (ok.firm_in f e)).places (last_list (lists_at family f)) q (last_in (lists_at family f)) has) ∙ sym (ap (λ (s : Spot). s.mediator) a.0) ∙ seat))
        | inr b ↦ ap (λ (x : SpotState). x.since) b.1 ∙ ok.listed f q e has (sym (ap (λ (x : SpotState). x.holds) b.1) ∙ held)
      ];
      listed_in = λ q e. ok.listed_in q (sym (stands q) ∙ e);
      dropped = λ q k e. ok.dropped q k (sym (stands q) ∙ e);
      low = low_formatted family firm places deleted ok p n (Some m);
      covered = λ f e still.
          let c = ok.covered f e still in (
            c.0,
            c.1,
            λ q took.
                let k = c.2 q took in
                elim (cases q) [
                  | inl a ↦ absurd (false≢true (sym (free f e) ∙ subst (λ (s : Spot). is_named (lists_at family f) s ≡ true) (sym a.0) k.named))
                  | inr b ↦ record { held = ap (λ (x : SpotState). x.holds) b.1 ∙ k.held; table = k.table; shows = ap (λ (x : SpotState). x.newest) b.1 ∙ k.shows; above = k.above; named = k.named }
                ],
          );
      gone = λ q e. absurd (none_some q (sym there ∙ e));
      unused = λ e. absurd (put_used places p (formatted n (Some m)) e);
    }
