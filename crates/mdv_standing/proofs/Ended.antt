-- A database whose only place was blanked: its last table is firm, and that place, which alone it lists, holds nothing.
use Rattle.std.proofs.Common.{◌≡◌, inl, inr, ℕ, ◌-◌, ◌<◌, ◌||◌, Bool, true, false, cond, List, [], ◌∷◌, length, not, Option, None, Some, Contains, refl, sym, ◌∙◌, ap, subst}
use Rattle.std.proofs.lemmas.Bool.{and_parts, false_from_ne_true, false≢true, or_cases, or_left}
use Rattle.std.proofs.lemmas.List.Elements.{All-contains, All-head}
use Rattle.mdv_quorum.specs.May.{IsReady, MayAll, is_firm_in, is_only, is_only_place, is_single, may, may_wipe}
use Rattle.mdv_quorum.specs.Standing.{BootsAt, IsLastFirm}
use Rattle.mdv_quorum.specs.World.{chosen, claimed, created, crashed, formatted_at, formatted_next, formatted_seat, given_up, happens, lists_at, places_after, read, settled, slotted, taken_after, told_at, wiped_at, with_table, without, wrote}
use Rattle.mdv_quorum.specs.declared.event.Event.TheVariants as event
use Rattle.mdv_quorum.specs.declared.event.SlotEnd.{SlotEnd}
use Rattle.mdv_shown.proofs.Wiped.{all_wiped}
use Rattle.mdv_store_law.proofs.Families.{contains_cases}
use Rattle.mdv_store_law.specs.Log.{IsNotOlder, IsRising}
use Rattle.mdv_votes.proofs.Meeting.{same_is, same_self}
use Rattle.mdv_votes.proofs.PlacesAt.{put_cases}
use Rattle.mdv_votes.specs.Family.{change_at, put_at, with_claim, wiped}
use Rattle.mdv_votes.specs.Spots.{in_second}
use Rattle.mdv_standing.specs.Below.{Claiming, Core, Creating, Event, FamilyTable, Identity, Image, IsBelow, Log, Over, Reading, Ready, Site, SliceLine, Spot, SpotLists, Stage, Table, Version, Writing, after_all, is_in, is_named, is_written, last_table, place_at, same_spot, spot_on, start, table_at}
use Rattle.mdv_standing.specs.Matching.{Reached, is_set, lists_of}
use Rattle.mdv_standing.specs.Others.{IsLoose}
use Rattle.mdv_standing.specs.Worlds.{IsWorld}
use Rattle.mdv_standing.proofs.Listed.{live_at}
use Rattle.mdv_standing.proofs.Reaching.{reached_more, standing}
use Rattle.mdv_standing.proofs.Taking.{last_lists}

pub record IsEnded (w : Core) (p : Spot) : Type 0 where
  pub firm : IsLastFirm w
  pub only : is_only_place (last_table w).lists p ≡ true
  pub none : (place_at w.places p).holds ≡ false

abbrev pub HasEnded : Core → Type 0
HasEnded w = (p : Spot) → w.deleted ≡ Some p → IsEnded w p

never : (w : Core) → w.deleted ≡ None → HasEnded w
never w none p gone = absurd (cc (none, gone))

-- so it is of a world with the same tables, where no more places hold something
carry : (w v : Core) → v.family ≡ w.family → v.firm ≡ w.firm → v.deleted ≡ w.deleted → ((q : Spot) → (place_at v.places q).holds ≡ true → (place_at w.places q).holds ≡ true) → HasEnded w → HasEnded v
carry w v family firm deleted held ended p gone =
    let e = ended p (sym deleted ∙ gone) in
    record {
      firm = (subst (λ (l : List FamilyTable). 0 < length l) (sym family) e.firm.0, firm ∙ e.firm.1 ∙ ap (λ (l : List FamilyTable). Some (length l - 1)) (sym family));
      only = ap (λ (l : List FamilyTable). is_only_place (table_at l (length l - 1)).lists p) family ∙ e.only;
      none = false_from_ne_true (place_at v.places p).holds (λ h. false≢true (sym e.none ∙ held p h));
    }

settled_deleted : (x : Core) (t : FamilyTable) (b : Bool) → (settled x t b).deleted ≡ x.deleted
settled_deleted x t true = refl
settled_deleted x t false = refl

wrote_deleted : (x : Core) (p : Spot) (end : SlotEnd) (boot : Option ℕ) (took : List Spot) → (wrote x p end boot took).deleted ≡ x.deleted
wrote_deleted x p end boot took =
    let all = taken_after took p end in
    settled_deleted (record x { places = places_after x.places (length x.family - 1) p end; stage = Writing boot all }) (last_table x) (is_written (last_table x) (is_in all))

-- each event leaves it so
module _ (site : Site) (w : Core) (reached : Reached site w) (ended : HasEnded w) where
  live : (s : Stage) → w.stage ≡ s → ((places : List Spot) → s ≡ Reading places → ⊥) → w.deleted ≡ None
  live s is past = live_at w s (subst (BootsAt w) is (standing site w reached).boots) past

  same : (v : Core) → v.family ≡ w.family → v.firm ≡ w.firm → v.deleted ≡ w.deleted → v.places ≡ w.places → HasEnded v
  same v family firm deleted places = carry w v family firm deleted (λ q h. ap (λ (xs : List _). (place_at xs q).holds) (sym places) ∙ h) ended

  read_ended : (p : Spot) (s : Stage) → HasEnded (read w p s)
  read_ended p (Reading places) = same _ refl refl refl refl
  read_ended p (Creating next) = ended
  read_ended p (Claiming adopted next done) = ended
  read_ended p (Writing boot took) = ended
  read_ended p (Ready next) = ended

  claims_held : (p : Spot) (n : ℕ) (q : Spot) → (place_at (put_at w.places p (with_claim n)) q).holds ≡ (place_at w.places q).holds
  claims_held p n q = elim (put_cases w.places p q (with_claim n) (λ x. refl)) [
    | inl here ↦ ap (λ x. x.holds) here.1
    | inr other ↦ ap (λ x. x.holds) other.1
  ]

  claim_ended : (p : Spot) (s : Stage) → HasEnded (claimed w p s)
  claim_ended p (Reading places) = by _ where
    by : (o : Option ℕ) → HasEnded (chosen w p places o)
    by None = ended
    by (Some i) = carry w _ refl refl refl (λ q h. sym (claims_held p _ q) ∙ h) ended
  claim_ended p (Creating next) = ended
  claim_ended p (Claiming adopted next done) = carry w _ refl refl refl (λ q h. sym (claims_held p _ q) ∙ h) ended
  claim_ended p (Writing boot took) = carry w _ refl refl refl (λ q h. sym (claims_held p _ q) ∙ h) ended
  claim_ended p (Ready next) = ended

  slot_ended : (p : Spot) (end : SlotEnd) (s : Stage) → w.stage ≡ s → HasEnded (slotted w p end s)
  slot_ended p end (Reading places) is = ended
  slot_ended p end (Creating next) is = never _ (wrote_deleted (with_table w next) p end None [] ∙ live (Creating next) is (λ places e. cc (e)))
  slot_ended p end (Claiming adopted next done) is = never _ (wrote_deleted (with_table w next) p end (Some adopted) [] ∙ live (Claiming adopted next done) is (λ places e. cc (e)))
  slot_ended p end (Writing boot took) is = never _ (wrote_deleted w p end boot took ∙ live (Writing boot took) is (λ places e. cc (e)))
  slot_ended p end (Ready None) is = ended
  slot_ended p end (Ready (Some next)) is = never _ (wrote_deleted (with_table w next) p end None [] ∙ live (Ready (Some next)) is (λ places e. cc (e)))

  format_ended : (p : Spot) (s : Stage) → w.stage ≡ s → HasEnded (formatted_at w p s)
  format_ended p (Reading places) is = ended
  format_ended p (Creating next) is = never _ (live (Creating next) is (λ places e. cc (e)))
  format_ended p (Claiming adopted next done) is = ended
  format_ended p (Writing boot took) is = ended
  format_ended p (Ready next) is = never _ (by p.mediator next ∙ live (Ready next) is (λ places e. cc (e))) where
    by : (b : Bool) (o : Option FamilyTable) → (cond b (formatted_seat w p) (formatted_next w p o)).deleted ≡ w.deleted
    by true o = refl
    by false None = refl
    by false (Some n) = refl

  -- a blanked place holds nothing
  blanked : (p : Spot) (s : Stage) → (wiped_at w p s).places ≡ change_at w.places p wiped
  blanked p (Reading places) = refl
  blanked p (Creating next) = refl
  blanked p (Claiming adopted next done) = refl
  blanked p (Writing boot took) = refl
  blanked p (Ready next) = by (is_named (last_table w).lists p) where
    by : (b : Bool) → (cond b (record w { places = change_at w.places p wiped; deleted = Some p; stage = Reading [] }) (record w { places = change_at w.places p wiped; stage = Ready (given_up p next) })).places ≡ change_at w.places p wiped
    by true = refl
    by false = refl

  blanked_held : (p q : Spot) → (place_at (change_at w.places p wiped) q).holds ≡ true → (place_at w.places q).holds ≡ true
  blanked_held p q h = (all_wiped w (p ∷ [])).held q (ap (λ (xs : List _). (place_at xs q).holds) (blanked p w.stage) ∙ h)

  blanked_none : (p : Spot) → (place_at (change_at w.places p wiped) p).holds ≡ false
  blanked_none p = false_from_ne_true _ (λ h. (all_wiped w (p ∷ [])).gone p (or_left (same_spot p p) false (same_self p)) (ap (λ (xs : List _). (place_at xs p).holds) (blanked p w.stage) ∙ h))

  -- where the last table names it, it was its only place, and that one is firm
  wipe_last : (p : Spot) (next : Option FamilyTable) → w.stage ≡ Ready next → may_wipe w p (Ready next) ≡ true → is_named (last_table w).lists p ≡ true
      → HasEnded (record w { places = change_at w.places p wiped; deleted = Some p; stage = Reading [] })
  wipe_last p next is fits named q gone =
      let firm = (standing site w reached).ready (subst IsReady (sym is) tt) in
      let same_one : p ≡ q = cc (gone) in
      let in_firm : is_firm_in w.family w.firm p ≡ true = ap (λ (o : Option ℕ). is_firm_in w.family o p) firm.1 ∙ named in
      let rest = and_parts (not p.mediator) (not (is_firm_in w.family w.firm p) || is_only_place (last_table w).lists p) fits in
      let only : is_only_place (last_table w).lists p ≡ true = elim (or_cases (not (is_firm_in w.family w.firm p)) (is_only_place (last_table w).lists p) rest.1) [
        | inl not_firm ↦ absurd (false≢true (sym (ap not in_firm) ∙ not_firm))
        | inr one ↦ one
      ] in
      record {
        firm = firm;
        only = subst (λ (x : Spot). is_only_place (last_table w).lists x ≡ true) same_one only;
        none = subst (λ (x : Spot). (place_at (change_at w.places p wiped) x).holds ≡ false) same_one (blanked_none p);
      }

  wipe_ended : (p : Spot) (s : Stage) → w.stage ≡ s → may_wipe w p s ≡ true → HasEnded (wiped_at w p s)
  wipe_ended p (Reading places) is fits = carry w (without w p) refl refl refl (blanked_held p) ended
  wipe_ended p (Creating next) is fits = carry w (without w p) refl refl refl (blanked_held p) ended
  wipe_ended p (Claiming adopted next done) is fits = carry w (without w p) refl refl refl (blanked_held p) ended
  wipe_ended p (Writing boot took) is fits = carry w (without w p) refl refl refl (blanked_held p) ended
  wipe_ended p (Ready next) is fits = by (is_named (last_table w).lists p) refl where
    by : (b : Bool) → is_named (last_table w).lists p ≡ b → HasEnded (cond b (record w { places = change_at w.places p wiped; deleted = Some p; stage = Reading [] }) (record w { places = change_at w.places p wiped; stage = Ready (given_up p next) }))
    by true named = wipe_last p next is fits named
    by false isnt = carry w _ refl refl refl (blanked_held p) ended

  lists_ended : (lists : SpotLists) (s : Stage) → HasEnded (lists_at w lists s)
  lists_ended lists (Reading places) = same (created w lists) refl refl refl refl
  lists_ended lists (Creating next) = same (created w lists) refl refl refl refl
  lists_ended lists (Claiming adopted next done) = ended
  lists_ended lists (Writing boot took) = ended
  lists_ended lists (Ready next) = same _ refl refl refl refl

  told_ended : (s : Stage) → HasEnded (told_at w s)
  told_ended (Reading places) = ended
  told_ended (Creating next) = ended
  told_ended (Claiming adopted next done) = ended
  told_ended (Writing None took) = same _ refl refl refl refl
  told_ended (Writing (Some i) took) = same _ refl refl refl refl
  told_ended (Ready next) = ended

  step : (e : Event) → may w e ≡ true → HasEnded (happens w e)
  step (event.Read p) fits = read_ended p w.stage
  step (event.Claimed p) fits = claim_ended p w.stage
  step (event.Slotted p end) fits = slot_ended p end w.stage refl
  step (event.Formatted p) fits = format_ended p w.stage refl
  step (event.Wiped p) fits = wipe_ended p w.stage refl fits
  step (event.Lists lists) fits = lists_ended lists w.stage
  step event.Told fits = told_ended w.stage
  step event.Crash fits = same (crashed w) refl refl refl refl
  step (event.Lose d) fits = same _ refl refl refl refl
  step (event.Back d) fits = same _ refl refl refl refl

all_ended : (site : Site) (es : List Event) (w : Core) → Reached site w → HasEnded w → MayAll w es → HasEnded (after_all w es)
all_ended site [] w reached ended may_all = ended
all_ended site (e ∷ es) w reached ended may_all = all_ended site es (happens w e) (reached_more site w (e ∷ []) reached (may_all.0, tt)) (step site w reached ended e may_all.0) may_all.1

pub has_ended : (site : Site) (w : Core) → Reached site w → HasEnded w
has_ended site w r =
    let from = start (is_set site.key) in
    subst HasEnded r.2 (all_ended site r.0 from ([], tt, refl) (never from refl) r.1)

-- a place that such a list names is that one
only_names : (lists : SpotLists) (p q : Spot) → q.mediator ≡ false → is_only_place lists p ≡ true → is_named lists q ≡ true → q ≡ p
only_names lists p q place only named =
    let parts = and_parts (is_only lists.first p) (is_single lists.second) only in
    let one : is_in lists.first q || in_second lists.second q ≡ true = ap (λ (b : Bool). cond b (is_in lists.mediators q) (is_in lists.first q || in_second lists.second q)) (sym place) ∙ named in
    elim (or_cases (is_in lists.first q) (in_second lists.second q) one) [
      | inl first ↦ in_one lists.first parts.0 first
      | inr second ↦ absurd (in_none lists.second parts.1 second)
    ]
  where
    in_none : (o : Option (List Spot)) → is_single o ≡ true → in_second o q ≡ true → ⊥
    in_none None single has = false≢true has
    in_none (Some list) single has = false≢true single

    in_one : (list : List Spot) → is_only list p ≡ true → is_in list q ≡ true → q ≡ p
    in_one [] is has = absurd (false≢true has)
    in_one (x ∷ []) is has =
        let x_p = and_parts (same_spot x p) true is in
        elim (or_cases (same_spot x q) false has) [ inl x_q ↦ sym (same_is x q x_q) ∙ same_is x p x_p.0 | inr none ↦ absurd (false≢true none) ]
    in_one (x ∷ y ∷ more) is has = absurd (false≢true (and_parts (same_spot x p) false is).1)

-- So what a deleted database has left, whose newest version was answered, doesn't count: no version that a boot may find names a place where it is found.
module _ (Spells : List ℕ → Table → Type 0) (site : Site) (identity : Identity) (log : Log) (w : Core) (image : Image) (world : IsWorld Spells site identity log w image) (over : log.fate ≡ Over)
    (v : Version) (older : List Version) (newest : log.family ≡ v ∷ older) (written : v.is_written ≡ true) (rising : IsRising log.family) where
  found_newest : (x : Version) → Contains log.family x → IsNotOlder x.mark log.family → x ≡ v
  found_newest x has found = elim (contains_cases v x older (subst (λ (l : List Version). Contains l x) newest has)) [
    | inl here ↦ sym here
    | inr behind ↦ absurd (All-head (λ (y : Version). y.is_written ≡ true → IsBelow x.mark y.mark → ⊥) v older (subst (IsNotOlder x.mark) newest found) written
        (All-contains (λ (y : Version). IsBelow y.mark v.mark) older x (subst IsRising newest rising).0 behind))
  ]

  pub gone_loose : (line : SliceLine) → IsLoose Spells site identity log image line
  gone_loose line x has found j first head own =
      let q = spot_on line first.blocks j in
      let gone = world.matches.gone over in
      let e = has_ended site w world.reached gone.0 gone.1 in
      let holds = (world.shows.each line j first head own).holds in
      let lists : (last_table w).lists ≡ lists_of site x = last_lists site log w world.matches v older newest ∙ ap (lists_of site) (sym (found_newest x has found)) in
      false_from_ne_true (is_named (lists_of site x) q) (λ named.
      let at_p = only_names (last_table w).lists gone.0 q refl e.only (ap (λ (l : SpotLists). is_named l q) lists ∙ named) in
      false≢true (sym e.none ∙ ap (λ (s : Spot). (place_at w.places s).holds) (sym at_p) ∙ holds))
