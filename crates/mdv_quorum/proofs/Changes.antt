-- Changes of places that leave what each shows.
use Rattle.std.proofs.Common.{◌≡◌, ◌<◌, ◌≤◌, ◌-◌, ℕ, true, false, refl, ap, sym, ◌∙◌, subst, List, length, inl, inr, ◌⊎◌, Option, None, Some, arith}
use Rattle.std.proofs.lemmas.Bool.{false≢true, false_from_ne_true}
use Rattle.mdv_quorum.specs.Below.{Spot, SpotLists, Version, SpotState, Since, is_named, same_spot, place_at, boot_of, put_at, change_at, changed_at, with_claim, wiped}
use Rattle.mdv_votes.proofs.Meeting.{same_is, same_self}
use Rattle.mdv_votes.proofs.PlacesAt.{put_cases, put_used, wipe_at, wiped_newest, wiped_claim, wiped_since, wiped_floor, wiped_held, wiped_other, wiped_itself, map_used, spot_at}
use Rattle.mdv_votes.proofs.Quorums.{lists_at}
use Rattle.mdv_quorum.proofs.Invariant.{newest, claim, holds, since, floor, boot_at, Late, Reaches, outdoes_as, Knows, IsCovered, IsGone, PlacesOk, HasTaken}

-- a change that leaves what each place shows, and holds where the firm table names it
pub record Leaves (family : List Version) (firm : Option ℕ) (deleted : Option Spot) (old new : List SpotState) : Type 0 where
  pub shows : (p : Spot) → newest new p ≡ newest old p
  pub stands : (p : Spot) → since new p ≡ since old p
  pub floors : (p : Spot) → floor new p ≡ floor old p
  pub held : (p : Spot) → holds new p ≡ true → holds old p ≡ true
  pub kept : (f : ℕ) (p : Spot) → firm ≡ Some f → deleted ≡ None → is_named (lists_at family f) p ≡ true → holds old p ≡ true → holds new p ≡ true
  pub knows : (p : Spot) (u : ℕ) → u < length family → Knows family old p (boot_at family u) → Knows family new p (boot_at family u)
  pub used : length new ≡ 0 → length old ≡ 0

pub leaves_to : (family : List Version) (firm : Option ℕ) (old new : List SpotState) (before deleted : Option Spot)
    → PlacesOk family firm old before → Leaves family firm deleted old new
    → ((f : ℕ) → firm ≡ Some f → deleted ≡ None → IsCovered family new f) → ((p : Spot) → deleted ≡ Some p → IsGone family firm new p)
    → PlacesOk family firm new deleted
leaves_to family firm old new before deleted ok l covered gone = record {
  firm_in = ok.firm_in;
  shows = λ p j e. ok.shows p j (sym (l.shows p) ∙ e);
  beaten = λ f i e h read knows r.
      let b = ok.beaten f i e h read knows r in
      record {
        place = b.place;
        was_read = b.was_read;
        named = b.named;
        late = elim b.late [ inl a ↦ inl (a.0, subst (λ (s : Since). Late s i) (sym (l.stands b.place)) a.1) | inr seat ↦ inr seat ];
        above = outdoes_as b.place (place_at old b.place) (place_at new b.place) i (l.shows b.place) (l.floors b.place) b.above;
      };
  numbers = λ i u read knows hi hu live r. elim (ok.numbers i u read knows hi hu live r) [
    | inl less ↦ inl less
    | inr known ↦ inr (known.0, known.1, l.knows known.0 u hu known.2)
  ];
  listed = λ f p e has there. l.stands p ∙ ok.listed f p e has (l.held p there);
  listed_in = λ p e. ok.listed_in p (sym (l.stands p) ∙ e);
  dropped = λ p m e. ok.dropped p m (sym (l.stands p) ∙ e);
  low = λ p. subst (λ (n : ℕ). 0 < n → Reaches firm n) (sym (l.floors p)) (ok.low p);
  covered = covered;
  gone = gone;
  unused = λ e. ok.unused (l.used e);
}

pub leaves_ok : (family : List Version) (firm : Option ℕ) (old new : List SpotState) (deleted : Option Spot)
    → PlacesOk family firm old deleted → Leaves family firm deleted old new → PlacesOk family firm new deleted
leaves_ok family firm old new deleted ok l =
    leaves_to family firm old new deleted deleted ok l
    (λ f e there.
    let c = ok.covered f e there in (
      c.0,
      c.1,
      λ p took.
          let k = c.2 p took in
          record { held = l.kept f p e there k.named k.held; table = k.table; shows = l.shows p ∙ k.shows; above = k.above; named = k.named },
    ))
    (λ p e.
    let g = ok.gone p e in
    record { some = g.some; is_firm = g.is_firm; place = g.place; wiped = false_from_ne_true (holds new p) (λ h. false≢true (sym g.wiped ∙ l.held p h)); needed = g.needed })

-- a claim that is no less than the numbers of the family
pub claim_leaves : (family : List Version) (firm : Option ℕ) (deleted : Option Spot) (places : List SpotState) (p : Spot) (n : ℕ)
    → ((u : ℕ) → u < length family → boot_at family u ≤ n) → Leaves family firm deleted places (put_at places p (with_claim n))
claim_leaves family firm deleted places p n high =
    let cases = λ (q : Spot). put_cases places p q (with_claim n) (λ x. refl) in
    record {
      shows = λ q. elim (cases q) [ inl a ↦ ap (λ (x : SpotState). x.newest) a.1 | inr b ↦ ap (λ (x : SpotState). x.newest) b.1 ];
      stands = λ q. elim (cases q) [ inl a ↦ ap (λ (x : SpotState). x.since) a.1 | inr b ↦ ap (λ (x : SpotState). x.since) b.1 ];
      floors = λ q. elim (cases q) [ inl a ↦ ap (λ (x : SpotState). x.floor) a.1 | inr b ↦ ap (λ (x : SpotState). x.floor) b.1 ];
      held = λ q h. elim (cases q) [ inl a ↦ sym (ap (λ (x : SpotState). x.holds) a.1) ∙ h | inr b ↦ sym (ap (λ (x : SpotState). x.holds) b.1) ∙ h ];
      kept = λ f q e there named h. elim (cases q) [ inl a ↦ ap (λ (x : SpotState). x.holds) a.1 ∙ h | inr b ↦ ap (λ (x : SpotState). x.holds) b.1 ∙ h ];
      knows = λ q u hu known. elim (cases q) [
        | inl a ↦ inl (subst (λ (c : ℕ). boot_at family u ≤ c) (sym (ap (λ (x : SpotState). x.claim) a.1)) (high u hu))
        | inr b ↦ subst (λ (x : SpotState). (boot_at family u ≤ x.claim) ⊎ (boot_at family u ≤ boot_of family x.newest)) (sym b.1) known
      ];
      used = λ e. absurd (put_used places p (with_claim n) e);
    }

pub claim_made : (places : List SpotState) (p q : Spot) (n : ℕ) → n ≤ claim places q ⊎ (p ≡ q) → n ≤ claim (put_at places p (with_claim n)) q
claim_made places p q n h =
    elim (put_cases places p q (with_claim n) (λ x. refl)) [
      | inl a ↦ subst (λ (c : ℕ). n ≤ c) (sym (ap (λ (x : SpotState). x.claim) a.1)) (omega arith)
      | inr b ↦ elim h [
        | inl old ↦ subst (λ (c : ℕ). n ≤ c) (sym (ap (λ (x : SpotState). x.claim) b.1)) old
        | inr is ↦ absurd (false≢true (sym b.0 ∙ subst (λ (s : Spot). same_spot p s ≡ true) is (same_self p)))
      ]
    ]

-- one that is named isn't one that isn't
pub apart_from : (lists : SpotLists) (p q : Spot) → is_named lists p ≡ false → is_named lists q ≡ true → same_spot q p ≡ false
apart_from lists p q isnt is = false_from_ne_true (same_spot q p) (λ e. false≢true (sym isnt ∙ subst (λ (s : Spot). is_named lists s ≡ true) (same_is q p e) is))

pub wipe_kept : (places : List SpotState) (p q : Spot) → holds places q ≡ true → same_spot q p ≡ false → holds (change_at places p wiped) q ≡ true
wipe_kept places p q h apart =
    ap (λ (x : SpotState). x.holds) (wipe_at places p q)
    ∙ wiped_other p (place_at places q) (ap (λ (s : Spot). same_spot s p) (spot_at places q) ∙ apart) ∙ h

-- a place is blanked that the firm table doesn't name
pub wipe_leaves : (family : List Version) (firm : Option ℕ) (deleted : Option Spot) (places : List SpotState) (p : Spot)
    → ((f : ℕ) → firm ≡ Some f → deleted ≡ None → is_named (lists_at family f) p ≡ false) → Leaves family firm deleted places (change_at places p wiped)
wipe_leaves family firm deleted places p free = record {
  shows = λ q. ap (λ (x : SpotState). x.newest) (wipe_at places p q) ∙ wiped_newest p (place_at places q);
  stands = λ q. ap (λ (x : SpotState). x.since) (wipe_at places p q) ∙ wiped_since p (place_at places q);
  floors = λ q. ap (λ (x : SpotState). x.floor) (wipe_at places p q) ∙ wiped_floor p (place_at places q);
  held = λ q h. wiped_held p (place_at places q) (sym (ap (λ (x : SpotState). x.holds) (wipe_at places p q)) ∙ h);
  kept = λ f q e there named h. wipe_kept places p q h (apart_from (lists_at family f) p q (free f e there) named);
  knows = λ q u hu known.
      subst (λ (c : ℕ). (boot_at family u ≤ c) ⊎ (boot_at family u ≤ boot_of family (newest (change_at places p wiped) q)))
      (sym (ap (λ (x : SpotState). x.claim) (wipe_at places p q) ∙ wiped_claim p (place_at places q)))
      (subst (λ (o : Option ℕ). (boot_at family u ≤ claim places q) ⊎ (boot_at family u ≤ boot_of family o))
      (sym (ap (λ (x : SpotState). x.newest) (wipe_at places p q) ∙ wiped_newest p (place_at places q))) known);
  used = λ e. map_used places (changed_at p wiped) e;
}

pub claim_taken : (family : List Version) (places : List SpotState) (p q : Spot) (n : ℕ) → HasTaken family places q → HasTaken family (put_at places p (with_claim n)) q
claim_taken family places p q n t =
    elim (put_cases places p q (with_claim n) (λ x. refl)) [
      | inl a ↦ record { shows = ap (λ (x : SpotState). x.newest) a.1 ∙ t.shows; held = ap (λ (x : SpotState). x.holds) a.1 ∙ t.held; named = t.named }
      | inr b ↦ record { shows = ap (λ (x : SpotState). x.newest) b.1 ∙ t.shows; held = ap (λ (x : SpotState). x.holds) b.1 ∙ t.held; named = t.named }
    ]

-- a place that the last table doesn't name is blanked
pub wipe_taken : (family : List Version) (places : List SpotState) (p q : Spot) → is_named (lists_at family (length family - 1)) p ≡ false → HasTaken family places q → HasTaken family (change_at places p wiped) q
wipe_taken family places p q free t = record {
  shows = ap (λ (x : SpotState). x.newest) (wipe_at places p q) ∙ wiped_newest p (place_at places q) ∙ t.shows;
  held = wipe_kept places p q t.held (apart_from (lists_at family (length family - 1)) p q free t.named);
  named = t.named;
}

pub wipe_claims : (places : List SpotState) (p q : Spot) → claim (change_at places p wiped) q ≡ claim places q
wipe_claims places p q = ap (λ (x : SpotState). x.claim) (wipe_at places p q) ∙ wiped_claim p (place_at places q)

pub wipe_gone : (places : List SpotState) (p : Spot) → holds (change_at places p wiped) p ≡ false
wipe_gone places p =
    ap (λ (x : SpotState). x.holds) (wipe_at places p p) ∙ wiped_itself p (place_at places p) (ap (λ (s : Spot). same_spot s p) (spot_at places p) ∙ same_self p)
