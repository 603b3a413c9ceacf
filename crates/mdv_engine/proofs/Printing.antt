-- What the printing of a table comes to, and what it leads to.
use Rattle.std.proofs.Common.{◌≡◌, inl, inr, ℕ, List, [], ◌+◌, ◌≤◌, Option, Some, None, All, refl, sym, ap, subst, ◌∙◌, arith}
use Rattle.std.proofs.lemmas.List.Elements.{All-append, All-cons, All-nil}
use Rattle.std.specs.List.{list_any}
use Rattle.mdv_base.specs.Order.{first_refusal, order, where_so}
use Rattle.mdv_base.specs.declared.name.Named.{Named}
use Rattle.mdv_base.specs.declared.refusal.Refusal.TheVariants.{NoDatabase, NoSuchPool, NoSuchVolume}
use Rattle.mdv_base.proofs.Order.{first_holds}
use Rattle.mdv_listing.specs.Listing.{listing_of}
use Rattle.mdv_listing.proofs.Lines.{listings_are_lines}
use Rattle.mdv_shelf.specs.declared.shelf.Shelf.{Ghosts}
use Rattle.mdv_status.specs.Values.{printed_reply}
use Rattle.mdv_words.specs.declared.command.Command.TheVariants.{Print}
use Rattle.mdv_engine_law.specs.Commands as came
use Rattle.mdv_engine_law.specs.Commands.{MaySpend, blame_of}
use Rattle.mdv_engine_law.specs.Line.{Nothing, Stays}
use Rattle.mdv_engine_law.specs.Refusals.{held_of_names, held_of_print, names_no_volume, names_pool, print_refusal}
use Rattle.mdv_engine_law.specs.Replies.{HasAnswerCause, IsPlainAnswer}
use Rattle.mdv_engine_law.specs.declared.answer.Answer.TheVariants.{Said}
use Rattle.mdv_engine_law.specs.declared.answer.Outcome.{Outcome}
use Rattle.mdv_engine_law.specs.declared.answer.Outcome.TheVariants as outcome
use Rattle.mdv_engine_law.proofs.Plain.{memory_plain, refusal_plain}
use Rattle.mdv_engine_law.proofs.Turning.{entered_none, refused_none}
use Rattle.mdv_plan.specs.declared.plan.Plan.{Plan}
use Rattle.mdv_engine.specs.Below.{AreCalm, CameTo, CarriedTo, Ends, Host, Memory, Opened, Outcomes, OutOfMemory, Refusal, Tale, kept_at}
use Rattle.mdv_engine.specs.Counts.{IsCommandCounted}
use Rattle.mdv_engine.specs.Ends.{CommandEnd, HasAnswered}
use Rattle.mdv_engine.specs.Engine.{IsWell, case_at}
use Rattle.mdv_engine.specs.Printing.{HasPrinted, IsPrint, printed, turned_down}
use Rattle.mdv_engine.specs.declared.engine.Engine.{Engine}
use Rattle.mdv_engine.proofs.Counting.{none_within, refused_counted}
use Rattle.mdv_engine.proofs.Ending.{command_ends}
use Rattle.mdv_engine.proofs.Judged.{IsJudged, judged_said, where_judged}

-- what it is refused for tells of no failed call
print_held : (opened : Option Opened) (names : List Named) → All IsJudged (held_of_print opened names)
print_held None names = All-cons IsJudged NoDatabase [] tt (All-nil IsJudged)
print_held (Some database) names =
    let missing = list_any (names_no_volume database.table.plan) names in
    let pools = list_any names_pool names in
    All-append IsJudged (where_so missing NoSuchVolume) (where_so pools NoSuchPool) (where_judged missing NoSuchVolume tt) (where_judged pools NoSuchPool tt)

pub print_judged : (opened : Option Opened) (names : List Named) (r : Refusal) → print_refusal opened names ≡ Some r → IsJudged r
print_judged opened names r is = first_holds IsJudged order (held_of_print opened names) r (print_held opened names) is

-- what is open is printed, or what has these names of it
pub turned_down_open : (memory : Memory) (database : Opened) (names : List Named) (r : Refusal) → memory.opened ≡ Some database → Some r ≡ first_refusal (held_of_names database.table.plan names) → HasPrinted memory names (outcome.Refused r)
turned_down_open memory database names r opened is = turned_down r (ap (λ (o : Option Opened). print_refusal o names) opened ∙ sym is) refl

pub printed_open : (memory : Memory) (database : Opened) (names : List Named) (this : Outcome) → memory.opened ≡ Some database → None ≡ first_refusal (held_of_names database.table.plan names) → IsPrint database.table.plan names this → HasPrinted memory names this
printed_open memory database names this opened is print = printed database opened (ap (λ (o : Option Opened). print_refusal o names) opened ∙ sym is) print

pub printed_shut : (memory : Memory) (names : List Named) → memory.opened ≡ None → HasPrinted memory names (outcome.Refused NoDatabase)
printed_shut memory names none = turned_down NoDatabase (ap (λ (o : Option Opened). print_refusal o names) none) refl

module _ (old : Engine) (names : List Named) where
  still : (t : Tale) → Stays (kept_at old.state t) (kept_at old.state t)
  still t = record { memory = refl; content = λ drive block. refl }

  abbrev Comes : Outcomes → Tale → Outcome → Type 0
  Comes calls t this = CameTo calls old.host (kept_at old.state t) (Print names) (Said this) (kept_at old.state t)

  comes : (this : Outcome) → HasPrinted old.state names this → (calls : Outcomes) → AreCalm calls → (t : Tale) → Comes calls t this
  comes this (turned_down r is said) calls calm t = subst (Comes calls t) (sym said) (came.refused calm r is (refl, still t))
  comes this (printed database opened free (inl said)) calls calm t = subst (Comes calls t) (sym said) (came.done free (calm, database, opened, refl, still t))
  comes this (printed database opened free (inr want)) calls calm t = subst (Comes calls t) (sym want) (came.wanting calm refl (free, still t))

  abbrev Carries : Tale → Outcome → Type 0
  Carries t this = CarriedTo old.host Nothing old.state (Said this) old.state t t

  carried : (this : Outcome) → HasPrinted old.state names this → (t : Tale) → Carries t this
  carried this (turned_down r is said) t = subst (Carries t) (sym said) (refused_none old.host Nothing old.state r t)
  carried this (printed database opened free (inl said)) t = subst (Carries t) (sym said) (entered_none old.host old.state old.state.entries (printed_reply (listing_of database.table.plan names)) t)
  carried this (printed database opened free (inr want)) t = subst (Carries t) (sym want) (refused_none old.host Nothing old.state OutOfMemory t)

  pub print_ends : (this : Outcome) → HasPrinted old.state names this → (calls : Outcomes) → AreCalm calls → (a : Option Tale) → Ends (CommandEnd calls old (Print names) (Said this) old) a a
  print_ends this has calls calm a =
      command_ends calls old _ (Print names) this old a a (λ t start. (t, start, λ known. comes this has calls calm t)) (λ t start. (t, start, carried this has t)) (λ on u. tt) (λ is u. tt)

  -- the text is one reply
  text_plain : (plan : Plan) → IsPlainAnswer (Said (outcome.Values (printed_reply (listing_of plan names))))
  text_plain plan = let are = listings_are_lines plan names in inr (inr (record { lines = are.lines; quiet = are.quiet; is = ap printed_reply are.joined }))

  print_plain : (this : Outcome) → HasPrinted old.state names this → IsPlainAnswer (Said this)
  print_plain this (turned_down r is said) = subst (λ (o : Outcome). IsPlainAnswer (Said o)) (sym said) (refusal_plain (case_at old) (Print names) r is)
  print_plain this (printed database opened free (inl said)) = subst (λ (o : Outcome). IsPlainAnswer (Said o)) (sym said) (text_plain database.table.plan)
  print_plain this (printed database opened free (inr want)) = subst (λ (o : Outcome). IsPlainAnswer (Said o)) (sym want) memory_plain

  abbrev Cause : Outcomes → Outcome → Type 0
  Cause calls this = HasAnswerCause (blame_of calls old.host old.state (Print names)) (MaySpend old.state (Print names)) (Said this)

  print_cause : (this : Outcome) → HasPrinted old.state names this → (calls : Outcomes) → AreCalm calls → Cause calls this
  print_cause this (turned_down r is said) calls calm =
      subst (Cause calls) (sym said)
      (judged_said (blame_of calls old.host old.state (Print names)) (MaySpend old.state (Print names)) r (print_judged old.state.opened names r is) calm)
  print_cause this (printed database opened free (inl said)) calls calm = subst (Cause calls) (sym said) calm
  print_cause this (printed database opened free (inr want)) calls calm = subst (Cause calls) (sym want) calm

  at_most : (n : ℕ) → n ≤ n + 1
  at_most n = omega arith

  pub print_answer : (this : Outcome) → HasPrinted old.state names this → (calls : Outcomes) → AreCalm calls → IsWell old.host old.state → HasAnswered calls (Print names) old (Said this) old
  print_answer this has calls calm well = record {
    plain = print_plain this has;
    cause = print_cause this has calls calm;
    lost = λ active listed is. absurd (cc (is));
    free = λ on among closed. absurd (omega (arith, among.1));
    few = inr tt;
    host = refl;
    well = λ on. well;
    begun = at_most old.state.begun;
  }

-- no call is made
module _ {S : Type 0} (shelf : Ghosts S) (s : S) (host : Host) (names : List Named) (memory : Memory) where
  abbrev Counted : Option Opened → Outcome → Type 0
  Counted opened this = IsCommandCounted shelf s s host (Print names) (Said this) opened opened

  refused_none_made : (r : Refusal) (opened : Option Opened) → IsJudged r → Counted opened (outcome.Refused r)
  refused_none_made r opened judged = refused_counted shelf s s host (Print names) r opened opened (λ fault. absurd (subst IsJudged fault judged)) refl

  pub print_counted : (this : Outcome) → HasPrinted memory names this → (opened : Option Opened) → Counted opened this
  print_counted this (turned_down r is said) opened = subst (Counted opened) (sym said) (refused_none_made r opened (print_judged memory.opened names r is))
  print_counted this (printed database is free (inl said)) opened = subst (Counted opened) (sym said) (record { exactly = none_within shelf s s 0 0 refl; most = none_within shelf s s 0 0 refl; wrote = tt })
  print_counted this (printed database is free (inr want)) opened = subst (Counted opened) (sym want) (refused_counted shelf s s host (Print names) OutOfMemory opened opened (λ fault. absurd (cc (fault))) refl)
