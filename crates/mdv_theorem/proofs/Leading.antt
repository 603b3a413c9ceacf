-- How a history that is known goes on over a line, and what stays so of each table that a boot may find.
use Rattle.std.proofs.Common.{◌≡◌, inl, inr, ⊎_elim, ℕ, List, [], ◌∷◌, ◌++◌, Option, Some, Contains, refl, sym, ◌∙◌, ap, subst}
use Rattle.std.proofs.lemmas.List.{append-nil}
use Rattle.mdv_engine_law.specs.Awake.{Happening}
use Rattle.mdv_engine_law.specs.Hosts.{key_of}
use Rattle.mdv_engine_law.specs.Replies.{issuable}
use Rattle.mdv_engine_law.specs.declared.host.Host.{Host}
use Rattle.mdv_engine_law.proofs.Going.{may_course}
use Rattle.mdv_port.specs.Script.{Script, at_end, line, spent, too_long}
use Rattle.mdv_run_law.specs.Standing.{AreIdle, AreOfLine, ComeOf, Context, NothingLeft}
use Rattle.mdv_run_law.proofs.Deeds.{part_contains}
use Rattle.mdv_store_law.specs.Changes.{Change}
use Rattle.mdv_store_law.specs.Log.{IsAskable, IsMade, Issue, OfChange, OfCreation, OfEnd, OfPlaces}
use Rattle.mdv_store_law.specs.Machine as machine
use Rattle.mdv_plan.specs.declared.table.Table.{Table}
use Rattle.mdv_volumes.specs.Databases.{log_of}
use Rattle.mdv_volumes.specs.Happening.{issued_by}
use Rattle.mdv_volumes.specs.History.{Changed, Deed, Deleted, Event, History, history_after, history_after_all}
use Rattle.mdv_volumes.proofs.Found.{AreLasting}
use Rattle.mdv_volumes.proofs.Lasting.{lasts_over}
use Rattle.mdv_theorem.specs.Exchanges.{Exchange}
use Rattle.mdv_theorem.proofs.Lined.{idle_quiet}
use Rattle.mdv_theorem.proofs.Lines.{MayBegin, begins_asked, lets}

module _ (host : Host) where
  -- it goes on by events that begin nothing
  pub record IsIdled (h g : History) : Type 0 where
    pub es : List Event
    pub course : machine.IsCourse history_after (Happening host) h es
    pub is : history_after_all h es ≡ g
    pub idle : AreIdle host es

  -- or by those of a line that was answered
  pub record IsLed (one : Exchange) (h g : History) : Type 0 where
    pub es : List Event
    pub course : machine.IsCourse history_after (Happening host) h es
    pub is : history_after_all h es ≡ g
    pub now : Context
    pub after : Context
    pub reply : List ℕ
    pub told : one.reply ≡ Some reply
    pub its : AreOfLine host one.text now reply es after

  -- so it is over what comes next of a script
  abbrev pub LedBy : Script → List ℕ → History → History → Type 0
  LedBy at_end reply h g = Unit {0}
  LedBy (spent lines bytes) reply h g = Unit {0}
  LedBy (too_long more) reply h g = IsIdled h g
  LedBy (line text more) reply h g = IsLed (record { text = text; reply = Some reply }) h g

  pub led_by : (script : Script) (reply : List ℕ) (now last : Context) (h g : History) (es : List Event) → machine.IsCourse history_after (Happening host) h es → history_after_all h es ≡ g → ComeOf host (NothingLeft last) now script (reply ∷ []) es → LedBy script reply h g
  led_by at_end reply now last h g es course is come = tt
  led_by (spent lines bytes) reply now last h g es course is come = tt
  led_by (too_long more) reply now last h g es course is come =
      let same : es ≡ come.0 = come.2 ∙ ap (λ (l : List Event). come.0 ++ l) come.4.0 ∙ append-nil come.0 in
      record { es = es; course = course; is = is; idle = subst (AreIdle host) (sym same) come.3 }
  led_by (line text more) reply now last h g es course is come =
      let same : es ≡ come.0 = come.2 ∙ ap (λ (l : List Event). come.0 ++ l) come.6.0 ∙ append-nil come.0 in
      record { es = es; course = course; is = is; now = now; after = come.3; reply = reply; told = refl; its = subst (λ (l : List Event). AreOfLine host text now reply l come.3) (sym same) come.4 }

  -- its events begin no more than the line may have begun
  pub led_begins : (one : Exchange) (h g : History) (led : IsLed one h g) (deed : Deed) → Contains (issued_by led.es) deed → MayBegin (key_of host) deed one
  led_begins one h g led deed has =
      let may = lets led.its.ask led.reply deed (part_contains (issued_by led.es) (issuable led.its.ask led.reply) deed led.its.does.begins has) in
      begins_asked host one led.its.ask (⊎_elim (λ asks. inl asks) (λ none. inr none.0) led.its.asks)
      (λ refusal told. may.begun refusal (let same : Some led.reply ≡ Some _ = sym led.told ∙ told in cc (same))) deed may.asked

  -- what a change asks of the host's database that these deeds have
  abbrev pub Which : (Deed → Type 0) → Issue → Type 0
  Which Begins (OfCreation identity) = Unit {0}
  Which Begins (OfChange change) = Begins (Changed (key_of host) change)
  Which Begins (OfPlaces places) = Unit {0}
  Which Begins OfEnd = Unit {0}

  module _ (Begins : Deed → Type 0) where
    -- What no change takes from a table that they begin stays so of each that a boot may find, as long as they begin no end of the database.
    pub lasting_over : (P : Table → Type 0) → ((asked : Option Change) (old next : Table) → IsAskable (Which Begins) asked → IsMade host.drives asked old next → P old → P next) → (Begins (Deleted (key_of host)) → ⊥) → (h : History) (es : List Event)
        → machine.IsCourse history_after (Happening host) h es → ((deed : Deed) → Contains (issued_by es) deed → Begins deed) → AreLasting host.drives P (log_of h.databases (key_of host)) → AreLasting host.drives P (log_of (history_after_all h es).databases (key_of host))
    lasting_over P stays never h es course begins are =
        let key = key_of host in
        lasts_over host.drives key P (Which Begins) stays h es (may_course host h es course) (λ has. never (begins (Deleted key) has)) (λ change has. begins (Changed key change) has) are

  -- events that begin nothing leave it
  pub lasting_idle : (P : Table → Type 0) → ((asked : Option Change) (old next : Table) → IsAskable (Which (λ deed. ⊥)) asked → IsMade host.drives asked old next → P old → P next) → (h g : History) → IsIdled h g
      → AreLasting host.drives P (log_of h.databases (key_of host)) → AreLasting host.drives P (log_of g.databases (key_of host))
  lasting_idle P stays h g idled are =
      subst (λ (x : History). AreLasting host.drives P (log_of x.databases (key_of host))) idled.is
      (lasting_over (λ deed. ⊥) P stays (λ none. none) h idled.es idled.course (idle_quiet host idled.es idled.idle) are)

  -- and those of a line that can't have taken the database away
  pub lasting_led : (P : Table → Type 0) (one : Exchange) → ((asked : Option Change) (old next : Table) → IsAskable (Which (λ deed. MayBegin (key_of host) deed one)) asked → IsMade host.drives asked old next → P old → P next) → (MayBegin (key_of host) (Deleted (key_of host)) one → ⊥)
      → (h g : History) → IsLed one h g → AreLasting host.drives P (log_of h.databases (key_of host)) → AreLasting host.drives P (log_of g.databases (key_of host))
  lasting_led P one stays never h g led are =
      subst (λ (x : History). AreLasting host.drives P (log_of x.databases (key_of host))) led.is
      (lasting_over (λ deed. MayBegin (key_of host) deed one) P stays never h led.es led.course (led_begins one h g led) are)
