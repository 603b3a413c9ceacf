-- What the end of a database leaves of a host's history, whose first place alone was left before.
use Rattle.std.proofs.Common.{◌≡◌, inl, inr, ℕ, Bool, true, false, List, [], ◌∷◌, ◌++◌, take, Option, Some, None, IfSome, Ok, Contains, refl, sym, ◌∙◌, ap, subst, arith}
use Rattle.mdv_databases.proofs.Ending.{end_end, end_moment}
use Rattle.mdv_databases.proofs.Lists.{events_log}
use Rattle.mdv_databases.specs.Ending.{IsEndIn, IsEndedIn}
use Rattle.mdv_databases.specs.Going.{GoOnBy, with_events}
use Rattle.mdv_databases.specs.Lasting.{AreFreed}
use Rattle.mdv_engine_law.specs.Below.{AreWoken, Changed, Created, Database, Deed, Deleted, Drives, Event, History, IoFault, IsOpenIn, IsOpenedAt, Key, KeptOutside, Log, Opened, Place, SliceName, Table, Tale, log_of, site_area, site_of}
use Rattle.mdv_places.specs.Asked.{KeepsFirst}
use Rattle.mdv_places.specs.Ending.{EndEnds, EndMoment}
use Rattle.mdv_places.specs.Moments.{IsFront, MoveEnds, MoveMoment, MoveShows}
use Rattle.mdv_places.specs.Outcomes.{IsMoved}
use Rattle.mdv_shelf.specs.Failing.{Outcomes}
use Rattle.mdv_shelf.proofs.Frame.{kept_outside_more}
use Rattle.mdv_store_law.specs.Changes.{FirstPlace}
use Rattle.mdv_store_law.specs.Changes as changes
use Rattle.mdv_store_law.specs.Log as log
use Rattle.mdv_store_law.specs.Log.{EndAlone}
use Rattle.mdv_store_law.specs.Machine.{AreAll, all_of}
use Rattle.mdv_store_law.specs.Part.{IsPart}
use Rattle.mdv_store_law.proofs.Parts.{part_itself}
use Rattle.mdv_config.specs.Lists.{last_of}
use Rattle.mdv_volumes.specs.Happening.{IsOver, begun_at}
use Rattle.mdv_volumes.specs.HistoryLaws.{IsAsked}
use Rattle.mdv_volumes.proofs.Lifting.{untold_by}
use Rattle.mdv_volumes.proofs.Lists.{contains_behind, contains_first}
use Rattle.mdv_engine_law.specs.declared.answer.Answer.TheVariants.{Said}
use Rattle.mdv_engine_law.specs.declared.answer.Outcome.TheVariants as outcome
use Rattle.mdv_engine_law.specs.declared.host.Host.{Host}
use Rattle.mdv_engine_law.specs.Hosts.{IsReady, key_of}
use Rattle.mdv_engine_law.specs.Line.{Ask, Memory, ToDrop, deeds, is_in}
use Rattle.mdv_engine_law.specs.Standing.{CanTellAll, CarriedTo, CarryMoment, Goes, IsKnown, IsKnownAfter, IsOfRun, Knows, Reached, StandsAt, WritesOnly, is_steady}
use Rattle.mdv_engine_law.proofs.Going.{goes_more, not_among, not_other}
use Rattle.mdv_engine_law.proofs.Knowing.{same_steady}
use Rattle.mdv_engine_law.proofs.Lifting.{lift_events}
use Rattle.mdv_engine_law.proofs.Moving.{HasOpen, IsMoveOf, behind, has_open}
use Rattle.mdv_engine_law.proofs.Owning.{own_gone}
use Rattle.mdv_engine_law.proofs.Raising.{later_by}
use Rattle.mdv_engine_law.proofs.Staying.{stays_on_site}
use Rattle.mdv_engine_law.proofs.Steady.{free_kept}

-- the first of these places alone is the first of its slice where it was
front_left : (places : List Place) → IsFront KeepsFirst places → IsFront KeepsFirst (take 1 places)
front_left [] front = tt
front_left (p ∷ places) front = front

-- A database that is open ends, at a moment behind these blocks of its host's site.
module _ (host : Host) (sizes : List ℕ) (ready : IsReady host sizes) (o : Opened) (front : IsFront KeepsFirst (last_of o.table.plan.lists)) (u m : Tale) (kept : KeptOutside (site_area host.site) u m) where
  -- what is asked
  abbrev pub gone : List Deed
  gone = Deleted (key_of host) ∷ []

  end_in : (begun : ℕ) (h : History) → HasOpen host begun o h u → IsEndIn host.drives h.databases o u
  end_in begun h known = record { stand = known.stands.databases; is_open = known.is_open; others = λ s d has differ. absurd (differ (known.its.own d has ∙ sym known.keyed)); front = front }

  -- by these events
  module _ (es : List log.Event) (issued : AreAll (log.IsIssue (IsOfRun host gone)) es) (begins : (key : Key) → key ≡ key_of host → IsPart (all_of (begun_at key) es) gone) (never : (table : Table) → IsAsked es table → ⊥) where
    pub ending : (begun : ℕ) (After : Log → Type 0) (Then : List Event → History → Type 0) (h : History) (known : HasOpen host begun o h u) (goes : GoOnBy EndAlone host.drives h.databases o.key o.identity [] After m) → goes.es ≡ es
        → ((fs : List Event) (g : History) → StandsAt host g m → g.databases ≡ with_events o.key goes.es h.databases → g.untold ≡ untold_by o.key es h.untold → g.woken ≡ h.woken → g.up ≡ h.up → Then fs g) → Goes host gone [] Then m h
    ending begun After Then h known goes same then =
        lift_events host gone Then EndAlone o.key o.identity [] After u m (subst (λ (area : ℕ → ℕ → Bool). KeptOutside area u m) (sym here) kept) h known.stands goes (later_by EndAlone (λ identity never. never) goes.es goes.come.issues)
        (subst (λ (l : List log.Event). AreAll (log.IsIssue (IsOfRun host gone)) l) (sym same) issued) (subst (λ (l : List log.Event). IsPart (all_of (begun_at o.key) l) gone) (sym same) (begins o.key known.keyed))
        (λ table asked. absurd (never table (subst (λ (l : List log.Event). IsAsked l table) same asked)))
        (λ fs g there databases untold. then fs g there databases (untold ∙ ap (λ (l : List log.Event). untold_by o.key l h.untold) same))
      where
        here : site_area (site_of host.drives o.key) ≡ site_area host.site
        here = ap (λ (k : Key). site_area (site_of host.drives k)) known.keyed ∙ ap site_area (sym ready.site)

  asked_gone : Contains gone (Deleted (key_of host))
  asked_gone = contains_first (Deleted (key_of host)) []

  begins_once : (key : Key) → key ≡ key_of host → IsPart (Deleted key ∷ []) gone
  begins_once key same = subst (λ (k : Key). IsPart (Deleted k ∷ []) gone) (sym same) (part_itself gone)

  none_asked : (table : Table) → IsAsked (log.Clearing ∷ []) table → ⊥
  none_asked table (inl none) = none
  none_asked table (inr none) = none

  none_asked_over : (table : Table) → IsAsked (log.Clearing ∷ log.Gone ∷ []) table → ⊥
  none_asked_over table (inl none) = none
  none_asked_over table (inr (inl none)) = none
  none_asked_over table (inr (inr none)) = none

  -- at a moment of it
  pub ending_goes : EndMoment o u m → (begun : ℕ) (Then : List Event → History → Type 0) (h : History) (known : HasOpen host begun o h u)
      → ((es : List log.Event) (fs : List Event) (g : History) → StandsAt host g m → g.databases ≡ with_events o.key es h.databases → g.up ≡ h.up → Then fs g) → Goes host gone [] Then m h
  ending_goes moment begun Then h known then =
      let to = end_moment host.drives h.databases o u (end_in begun h known) m moment in
      ending (log.Clearing ∷ []) (asked_gone, tt) begins_once none_asked begun (λ (l : Log). l.fate ≡ log.Ends) Then h known to.0 to.1 (λ fs g there databases untold woken up. then to.0.es fs g there databases up)

  -- and once it is over: another one may be created, and the end can be told
  pub record IsGone (h : History) (g : History) : Type 0 where
    pub es : List log.Event
    pub databases : g.databases ≡ with_events o.key es h.databases
    pub freed : AreFreed host.drives g.databases (key_of host) m
    pub tells : CanTellAll host gone g
    pub up : g.up ≡ h.up

  pub gone_goes : EndMoment o u m → EndEnds o u m → (begun : ℕ) (Then : List Event → History → Type 0) (h : History) (known : HasOpen host begun o h u) → ((fs : List Event) (g : History) → StandsAt host g m → IsGone h g → Then fs g) → Goes host gone [] Then m h
  gone_goes moment ends begun Then h known then =
      ending (log.Clearing ∷ log.Gone ∷ []) (asked_gone, (tt, tt)) begins_once none_asked_over begun (λ (l : Log). l.fate ≡ log.Over) Then h known over.goes over.events (λ fs g there databases untold woken up. then fs g there (record {
        es = over.goes.es;
        databases = databases;
        freed = subst (λ (k : Key). AreFreed host.drives g.databases k m) known.keyed (subst (λ (ds : List Database). AreFreed host.drives ds o.key m) (sym databases) over.freed);
        tells = (subst (λ (l : List Deed). Contains l (Deleted (key_of host))) (sym untold) (subst (λ (k : Key). Contains (untold_by o.key (log.Clearing ∷ log.Gone ∷ []) h.untold) (Deleted k)) known.keyed (contains_first (Deleted o.key) h.untold)), is_over g databases);
        up = up;
      }))
    where
      over : IsEndedIn host.drives h.databases o u m
      over = end_end host.drives h.databases o u (end_in begun h known) m moment ends

      is_over : (g : History) → g.databases ≡ with_events o.key over.goes.es h.databases → IsOver g.databases (key_of host)
      is_over g databases =
          let own = events_log o.key over.goes.es h.databases over.goes.its.database over.goes.its.current in
          subst (λ (k : Key). IsOver g.databases k) known.keyed (ap (λ (ds : List Database). (log_of ds o.key).fate) databases ∙ ap (λ (l : Log). l.fate) own ∙ over.goes.after)

-- All places of the open database go, with force: first all but the first one, each of which is wiped; and then that one's master is blanked.
module _ (host : Host) (sizes : List ℕ) (ready : IsReady host sizes) (memory : Memory) (o : Opened) (opened : memory.opened ≡ Some o) (slices : List SliceName) (is : IsMoveOf host o KeepsFirst FirstPlace) (t u : Tale) (first_kept : KeptOutside (site_area host.site) t u)
    (moment : MoveMoment host.drives o KeepsFirst t u) (calls : Outcomes) (new : Opened) (moved : IsMoved calls host.drives o KeepsFirst new true) (ends : MoveEnds host.drives o new KeepsFirst (Ok true) t u) (shows : MoveShows host.drives o new KeepsFirst (Ok true) t u)
    (m : Tale) (kept : KeptOutside (site_area host.site) u m) (last : EndMoment new u m) where
  abbrev ask : Ask
  ask = ToDrop (key_of host) slices true

  abbrev left : Memory
  left = record memory { opened = Some new }

  both_kept : KeptOutside (site_area host.site) t m
  both_kept = kept_outside_more (site_area host.site) t u m first_kept kept

  front : IsFront KeepsFirst (last_of new.table.plan.lists)
  front = subst (λ (n : Opened). IsFront KeepsFirst (last_of n.table.plan.lists)) (sym moved.is) (front_left (last_of o.table.plan.lists) is.front)

  first_one : Contains (deeds ask) (Changed (key_of host) FirstPlace)
  first_one = contains_behind (Changed (key_of host) (changes.DropPlaces slices)) (Changed (key_of host) FirstPlace) (Changed (key_of host) FirstPlace ∷ Deleted (key_of host) ∷ []) (contains_first (Changed (key_of host) FirstPlace) (Deleted (key_of host) ∷ []))

  both : IsPart (Changed (key_of host) FirstPlace ∷ Deleted (key_of host) ∷ []) (deeds ask)
  both = inr (inl (refl, inl (refl, tt)))

  abbrev Left : List Event → History → Type 0
  Left es g = IsKnown host left g u × CanTellAll host (Changed (key_of host) FirstPlace ∷ []) g

  begin : (h : History) → IsKnown host memory h t → Goes host (Changed (key_of host) FirstPlace ∷ []) [] Left u h
  begin = behind host sizes ready memory o opened ask KeepsFirst FirstPlace is first_one t u first_kept moment calls new true moved ends shows left refl

  open_new : (g : History) → IsKnown host left g u → HasOpen host memory.begun new g u
  open_new g known = has_open host left new refl u g known

  -- one stretch behind the other
  joined : (Then : List Event → History → Type 0) (h : History) → IsKnown host memory h t → ((es : List Event) (g : History) → IsKnown host left g u → Goes host (Deleted (key_of host) ∷ []) [] (λ fs. Then (es ++ fs)) m g) → Goes host (deeds ask) [] Then m h
  joined Then h known rest = goes_more host (Changed (key_of host) FirstPlace ∷ []) (Deleted (key_of host) ∷ []) (deeds ask) [] [] Left Then u m h both (begin h known) (λ es g there is. rest es g is.0)

  -- each moment of the blanking
  pub ending_moment : WritesOnly host ask memory t m → CarryMoment host ask memory t m
  ending_moment writes = record {
    home = stays_on_site host t m both_kept;
    within = writes;
    quiet = last.quiet.quiet ∙ moment.quiet.quiet;
    goes = λ h known. inr (joined Reached h known (λ es g at. ending_goes host sizes ready new front u m kept last memory.begun (λ fs. Reached (es ++ fs)) g (open_new g at) (λ fs gs k there databases up. tt)));
  }

  -- None is open then, and so many creations were begun.
  module _ (next : Memory) (closed : next.opened ≡ None) (same_up : next.up ≡ memory.up) (same_unsteady : next.unsteady ≡ memory.unsteady) (begun : next.begun ≡ memory.begun) where
    still_on : (drive : ℕ) → is_steady memory drive ≡ is_steady next drive
    still_on drive = sym (same_steady memory next same_up same_unsteady drive)

    empty : (P : Opened → Type 0) → IfSome next.opened P
    empty P = subst (λ (x : Option Opened). IfSome x P) (sym closed) tt

    knows_none : Knows host memory t → Knows host next m
    knows_none known = record {
      opened = empty (λ n. (n.key ≡ key_of host) × IsOpenedAt host.drives n m);
      steady = free_kept host sizes ready memory next t m both_kept (λ drive on. still_on drive ∙ on) known.steady;
    }

    known_none : (h g k : History) → IsKnown host memory h t → IsKnown host left g u → (es : List log.Event) → StandsAt host k m → k.databases ≡ with_events new.key es g.databases → k.up ≡ g.up → (next.clean ≡ true → AreFreed host.drives k.databases (key_of host) m) → IsKnown host next k m
    known_none h g k was known es there databases up freed = record {
      stands = there;
      its = own_gone host memory.begun g known.its new.key es next.begun k (omega (arith, begun)) databases;
      is_open = empty (λ n. IsOpenIn host.drives n k.databases m);
      free = λ none clean. freed clean;
      up = λ drive. ap (λ (of : Key → Drives). is_in (of (key_of host)) drive) up ∙ known.up drive ∙ still_on drive;
      woken = empty (λ n. AreWoken host.drives n.table (is_steady next) k (key_of host));
      knows = knows_none was.knows;
    }

    -- the database is gone, and that can be told
    pub ended : EndEnds new u m → CarriedTo host ask memory (Said outcome.Ok) next t m
    ended over = record {
      done = Deleted (key_of host) ∷ [];
      acks = (Deleted (key_of host), contains_behind (Changed (key_of host) (changes.DropPlaces slices)) (Deleted (key_of host)) (Deleted (key_of host) ∷ []) (contains_first (Deleted (key_of host)) []), refl);
      free = λ has. absurd (not_other (Deleted (key_of host)) (Created (key_of host)) (λ same. cc (same)) has);
      goes = λ h known. inr (joined (λ es k. IsKnownAfter host (Deleted (key_of host) ∷ []) (Said outcome.Ok) next k m) h known (λ es g at. gone_goes host sizes ready new front u m kept last over memory.begun
          (λ fs k. IsKnownAfter host (Deleted (key_of host) ∷ []) (Said outcome.Ok) next k m) g (open_new g at) (λ fs k there is_gone. (known_none h g k known at is_gone.es there is_gone.databases is_gone.up (λ clean. is_gone.freed), is_gone.tells))));
      knows = knows_none;
    }

    -- the blanking failed: whether the database is there isn't known till the next boot
    pub unended : next.clean ≡ false → CarriedTo host ask memory (Said (outcome.Refused IoFault)) next t m
    unended dirty = record {
      done = [];
      acks = refl;
      free = λ has. absurd (not_among (Created (key_of host)) has);
      goes = λ h known. inr (joined (λ es k. IsKnownAfter host [] (Said (outcome.Refused IoFault)) next k m) h known (λ es g at. ending_goes host sizes ready new front u m kept last memory.begun
          (λ fs k. IsKnownAfter host [] (Said (outcome.Refused IoFault)) next k m) g (open_new g at) (λ fs gs k there databases up. known_none h g k known at fs there databases up (λ clean. absurd (cc (clean, dirty))))));
      knows = knows_none;
    }
