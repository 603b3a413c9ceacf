-- A boot reads, chooses and claims.
use Rattle.std.proofs.Common.{◌≡◌, ◌<◌, ◌≤◌, ◌-◌, ◌^◌, ℕ, Bool, true, false, refl, ap, sym, ◌∙◌, subst, List, [], ◌∷◌, length, inl, inr, Option, None, Some, arith, not, ◌&&◌, ◌||◌, append-nil}
use Rattle.std.proofs.lemmas.Bool.{false≢true, cases_lt, and_parts, and_from, or_cases, or_left, not-true, ltb-true, lt-ltb}
use Rattle.std.specs.Prelude.{nat_lt, ◌==◌}
use Rattle.mdv_quorum.specs.Below.{Spot, Version, is_in, is_named, is_none, same_spot, is_read, table_at, boot_of, put_at, with_claim, newest_of, greatest_of, knows_above}
use Rattle.mdv_votes.proofs.Meeting.{same_is, in_more}
use Rattle.mdv_votes.proofs.Quorums.{lists_at}
use Rattle.mdv_quorum.specs.declared.machine.Core.{Core}
use Rattle.mdv_quorum.specs.declared.machine.Stage.{Stage}
use Rattle.mdv_quorum.specs.declared.machine.Stage.TheVariants.{Reading, Creating, Claiming, Writing, Ready}
use Rattle.mdv_quorum.specs.World.{read, claimed, chosen, rewritten, last_table}
use Rattle.mdv_quorum.specs.May.{is_up, shows_none, is_stale_vote, is_fair, may_read, may_claim, may_choose, is_target}
use Rattle.mdv_quorum.proofs.More.{boots_rise}
use Rattle.mdv_quorum.proofs.Changes.{leaves_ok, claim_leaves, claim_made, claim_taken}
use Rattle.mdv_quorum.proofs.Adopt.{IsNewest, newest_is, greatest_at, above_known}
use Rattle.mdv_quorum.proofs.Invariant.{newest, holds, floor, boot_at, plan_at, Above, IsLive, Base, Inv, StageOk, ReadingOk}

read_on : (w : Core) (p : Spot) (places : List Spot) → Base w → ReadingOk w.deleted places → may_read w p (Reading places) ≡ true → Inv (read w p (Reading places))
read_on w p places b ok may =
    let m = and_parts (is_up w.lost p) (holds w.places p || p.mediator) may in
    let held : p.mediator ≡ false → holds w.places p ≡ true
    = λ place. elim (or_cases (holds w.places p) p.mediator m.1) [ inl h ↦ h | inr seat ↦ absurd (false≢true (sym place ∙ seat)) ] in
    record {
      base = record { tables = b.tables; common = b.common; plans = b.plans; places = b.places };
      stage = record {
        gone = λ q e has. elim (in_more places p q has) [
          | inl old ↦ ok.gone q e old
          | inr is ↦
              let g = b.places.gone q e in
              false≢true (sym g.wiped ∙ subst (λ (s : Spot). s.mediator ≡ false → holds w.places s ≡ true) is held g.place)
        ];
      };
    }

pub read_ok : (w : Core) (p : Spot) (s : Stage) → Base w → StageOk w s → may_read w p s ≡ true → Inv (read w p s)
read_ok w p (Reading places) b ok may = read_on w p places b ok may
read_ok w p (Creating next) b ok may = absurd (false≢true may)
read_ok w p (Claiming adopted next places) b ok may = absurd (false≢true may)
read_ok w p (Writing boot took) b ok may = absurd (false≢true may)
read_ok w p (Ready next) b ok may = absurd (false≢true may)

pub above_some : (o : Option ℕ) (i : ℕ) → Above o i → (j : ℕ) × (o ≡ Some j) × (i < j)
above_some None i h = absurd h
above_some (Some j) i h = (j, refl, h)

-- none of the places that were read is a stale vote
fair_at : (w : Core) (i : ℕ) (places : List Spot) (q : Spot) → is_fair w i places ≡ true → is_in places q ≡ true → is_stale_vote w i q ≡ false
fair_at w i [] q fair has = absurd (false≢true has)
fair_at w i (p ∷ ps) q fair has =
    let parts = and_parts (not (is_stale_vote w i p)) (is_fair w i ps) fair in
    elim (or_cases (same_spot p q) (is_in ps q) has) [
      | inl is ↦ subst (λ (s : Spot). is_stale_vote w i s ≡ false) (same_is p q is) (not-true (is_stale_vote w i p) parts.0)
      | inr rest ↦ fair_at w i ps q parts.1 rest
    ]

-- a place that the table names, which shows none and was formatted again since one above dropped it
pub stale_vote : (w : Core) (i : ℕ) (q : Spot) → is_named (lists_at w.family i) q ≡ true → newest w.places q ≡ None → i < floor w.places q → is_stale_vote w i q ≡ true
stale_vote w i q named none below =
    and_from (is_named (lists_at w.family i) q) (shows_none (newest w.places q) && nat_lt i (floor w.places q)) named
    (and_from (shows_none (newest w.places q)) (nat_lt i (floor w.places q)) (ap shows_none none) (lt-ltb i (floor w.places q) below))

pub stale_below : (w : Core) (i : ℕ) (q : Spot) → is_stale_vote w i q ≡ true → i < floor w.places q
stale_below w i q vote =
    let none = and_parts (is_named (lists_at w.family i) q) (shows_none (newest w.places q) && nat_lt i (floor w.places q)) vote in
    ltb-true i (floor w.places q) (and_parts (shows_none (newest w.places q)) (nat_lt i (floor w.places q)) none.1).1

-- what was read beats every table below the firm one, so the chosen one is none of these
chosen_live : (w : Core) (places : List Spot) (i : ℕ) → Base w → is_fair w i places ≡ true → IsNewest w.places places i
    → is_read (table_at w.family i) (is_in places) (knows_above w.family w.places (table_at w.family i)) ≡ true → IsLive w.firm i
chosen_live w places i b fair is reads f e =
    elim (cases_lt i f) [
      | inr up ↦ up
      | inl below ↦
          let x = b.places.beaten f i e below (is_in places) (knows_above w.family w.places (table_at w.family i)) reads in
          absurd (elim x.above [
            | inl above ↦ elim x.late [
              | inl late ↦
                  let a = above_some (newest w.places x.place) i above in
                  let least = is.greatest x.place a.0 x.was_read late.0 a.1 in
                  absurd (omega (arith, least, a.2))
              | inr seat ↦ false≢true (sym seat.1 ∙ above_known w.set w.family w.places i x.place b.tables (b.places.shows x.place) above)
            ]
            | inr stale ↦ false≢true (sym (fair_at w i places x.place fair x.was_read) ∙ stale_vote w i x.place x.named stale.1 stale.2)
          ])
    ]

-- and the database isn't deleted
chosen_there : (w : Core) (places : List Spot) (i : ℕ) → Base w → ReadingOk w.deleted places → i < length w.family → IsLive w.firm i
    → is_read (table_at w.family i) (is_in places) (knows_above w.family w.places (table_at w.family i)) ≡ true → w.deleted ≡ None
chosen_there w places i b ok known live reads = at w.deleted refl
  where
    at : (o : Option Spot) → w.deleted ≡ o → w.deleted ≡ None
    at None e = e
    at (Some g) e =
        let gone = b.places.gone g e in
        let up = live (length w.family - 1) gone.is_firm in
        let last : i ≡ length w.family - 1 = omega (arith, up, known) in
        absurd (ok.gone g e (gone.needed (is_in places) (knows_above w.family w.places (table_at w.family i))
        (subst (λ (k : ℕ). is_read (table_at w.family k) (is_in places) (knows_above w.family w.places (table_at w.family i)) ≡ true) last reads)))

-- each number of the family is below the one that is drawn
chosen_higher : (w : Core) (places : List Spot) (i : ℕ) → Base w → IsNewest w.places places i → i < length w.family → IsLive w.firm i
    → is_read (table_at w.family i) (is_in places) (knows_above w.family w.places (table_at w.family i)) ≡ true
    → (u : ℕ) → u < length w.family → boot_at w.family u ≤ greatest_of w.family w.places 0 places
chosen_higher w places i b is known live reads u hu =
    elim (b.places.numbers i u (is_in places) (knows_above w.family w.places (table_at w.family i)) known hu live reads) [
      | inl less ↦
          let seen = (greatest_at w.family w.places places 0 is.place is.was_read).1 in
          let own : boot_at w.family i ≤ greatest_of w.family w.places 0 places =
          subst (λ (o : Option ℕ). boot_of w.family o ≤ greatest_of w.family w.places 0 places) is.shows seen in
          omega (arith, less, own)
      | inr found ↦
          let seen = greatest_at w.family w.places places 0 found.0 found.1 in
          elim found.2 [ inl claims ↦ omega (arith, claims, seen.0) | inr shows ↦ omega (arith, shows, seen.1) ]
    ]

none_of : (list : List Spot) → list ≡ [] → is_none list ≡ true
none_of list e = ap is_none e

-- without mediators, where half suffices, the database is no set's
rewritten_alone : (set : Bool) (list : List Spot) → (set && is_none list) ≡ false → list ≡ [] → set ≡ false
rewritten_alone true list h e = absurd (false≢true (sym h ∙ none_of list e))
rewritten_alone false list h e = refl

in_one : (p q : Spot) → is_in (p ∷ []) q ≡ true → p ≡ q
in_one p q h = elim (or_cases (same_spot p q) false h) [ inl is ↦ same_is p q is | inr never ↦ absurd (false≢true never) ]

choose_ok : (w : Core) (p : Spot) (places : List Spot) (i : ℕ) → Base w → ReadingOk w.deleted places
    → newest_of w.family w.places None places ≡ Some i → may_choose w p places (Some i) ≡ true → Inv (chosen w p places (Some i))
choose_ok w p places i b ok e may =
    let reads = is_read (table_at w.family i) (is_in places) (knows_above w.family w.places (table_at w.family i)) in
    let adopts = is_target w (table_at w.family i).lists p && nat_lt (rewritten w places i).mark.boot (2 ^ 63) in
    let n = and_parts (reads && adopts) (is_fair w i places) may in
    let m = and_parts reads adopts n.0 in
    let is = newest_is w.set w.family w.places places i b.tables b.places.shows e in
    let known = b.places.shows is.place i is.shows in
    let live = chosen_live w places i b n.1 is m.0 in
    let next = rewritten w places i in
    let higher : (u : ℕ) → u < length w.family → boot_at w.family u < next.mark.boot
    = λ u hu. (let h = chosen_higher w places i b is known live m.0 u hu in omega (arith, h)) in
    record {
      base = record {
        tables = b.tables;
        common = b.common;
        plans = b.plans;
        places = leaves_ok w.family w.firm w.places (put_at w.places p (with_claim next.mark.boot)) w.deleted b.places
            (claim_leaves w.family w.firm w.deleted w.places p next.mark.boot (λ u hu. (let h = higher u hu in omega (arith, h))));
      };
      stage = record {
        there = chosen_there w places i b ok known live m.0;
        known = known;
        live = live;
        chosen = record { plan = refl; same = refl; issued = b.plans.issued i known live; holds_told = b.plans.holds_told i known live };
        fits = record {
          mark = λ u hu. or_left (nat_lt (boot_at w.family u) next.mark.boot) ((boot_at w.family u == next.mark.boot) && nat_lt (table_at w.family u).mark.count 0)
              (lt-ltb (boot_at w.family u) next.mark.boot (higher u hu));
          made = (known, sym (append-nil (plan_at w.family i)));
          lists = b.tables.lists i known;
          itself = b.common i i known known live live;
          before = λ j hj lj. b.common j i hj known lj live;
          behind = λ j hj lj. b.common i j known hj live lj;
          issued = b.plans.issued i known live;
          holds_told = b.plans.holds_told i known live;
          descends = λ f ef. b.plans.descends f i ef (live f ef) known;
          alone = λ half nobody j hj lj. (b.tables.lists j hj).alone (rewritten_alone w.set (lists_at w.family i).mediators half nobody);
        };
        higher = higher;
        claims = λ q has. claim_made w.places p q next.mark.boot (inr (in_one p q has));
      };
    }

claim_first : (w : Core) (p : Spot) (places : List Spot) (o : Option ℕ) → Base w → ReadingOk w.deleted places
    → newest_of w.family w.places None places ≡ o → may_choose w p places o ≡ true → Inv (chosen w p places o)
claim_first w p places None b ok e may = absurd (false≢true may)
claim_first w p places (Some i) b ok e may = choose_ok w p places i b ok e may

claim_more : (w : Core) (p : Spot) (i : ℕ) (next : Version) (places : List Spot) → Base w → StageOk w (Claiming i next places) → Inv (claimed w p (Claiming i next places))
claim_more w p i next places b ok = record {
  base = record {
    tables = b.tables;
    common = b.common;
    plans = b.plans;
    places = leaves_ok w.family w.firm w.places (put_at w.places p (with_claim next.mark.boot)) w.deleted b.places
        (claim_leaves w.family w.firm w.deleted w.places p next.mark.boot (λ u hu. (let h = ok.higher u hu in omega (arith, h))));
  };
  stage = record {
    there = ok.there;
    known = ok.known;
    live = ok.live;
    chosen = ok.chosen;
    fits = ok.fits;
    higher = ok.higher;
    claims = λ q has. claim_made w.places p q next.mark.boot (elim (in_more places p q has) [ inl old ↦ inl (ok.claims q old) | inr is ↦ inr is ]);
  };
}

claim_late : (w : Core) (p : Spot) (boot : Option ℕ) (took : List Spot) → Base w → StageOk w (Writing boot took) → Inv (record w { places = put_at w.places p (with_claim (last_table w).mark.boot); stage = Writing boot took })
claim_late w p boot took b ok =
    let n = (last_table w).mark.boot in
    let t = ok.taking in
    let some = t.some in
    record {
      base = record {
        tables = b.tables;
        common = b.common;
        plans = b.plans;
        places = leaves_ok w.family w.firm w.places (put_at w.places p (with_claim n)) w.deleted b.places
            (claim_leaves w.family w.firm w.deleted w.places p n (λ u hu. boots_rise w.set w.family b.tables u (length w.family - 1) (omega (arith, hu)) (omega (arith, some))));
      };
      stage = record {
        taking = record { there = t.there; some = t.some; taken = λ q has. claim_taken w.family w.places p q n (t.taken q has); made = t.made; alone = t.alone };
        settles = ok.settles;
      };
    }

pub claimed_ok : (w : Core) (p : Spot) (s : Stage) → w.stage ≡ s → Base w → StageOk w s → may_claim w p s ≡ true → Inv (claimed w p s)
claimed_ok w p (Reading places) e b ok may = claim_first w p places (newest_of w.family w.places None places) b ok refl may
claimed_ok w p (Creating next) e b ok may = absurd (false≢true may)
claimed_ok w p (Claiming adopted next places) e b ok may = claim_more w p adopted next places b ok
claimed_ok w p (Writing boot took) e b ok may =
    subst (λ (s : Stage). Inv (record w { places = put_at w.places p (with_claim (last_table w).mark.boot); stage = s })) (sym e) (claim_late w p boot took b ok)
claimed_ok w p (Ready next) e b ok may = absurd (false≢true may)
