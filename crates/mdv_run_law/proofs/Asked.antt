-- What the events of runs begin was asked by their lines, and what they tell their replies tell, in the same order.
use Rattle.std.proofs.lemmas.List.{append-nil}
use Rattle.std.proofs.Common.{◌≡◌, inl, inr, ℕ, List, [], ◌∷◌, ◌++◌, Some, refl, sym, ◌∙◌, ap, subst}
use Rattle.mdv_run_law.specs.Below.{Geometry, Script, at_end, spent, too_long, line, left_in, replies_in, Deed, Deleted, Event, Host, Local, issuable, issuable_front, issued_by, told_by}
use Rattle.mdv_store_law.specs.Part.{IsPart}
use Rattle.mdv_store_law.proofs.Parts.{part_more}
use Rattle.mdv_volumes.specs.Happening as history
use Rattle.mdv_store_law.proofs.Machine.{all_more}
use Rattle.mdv_run_law.specs.Standing.{AreBegun, AreIdle, AreOfRun, AreTold, ComeOf, Context, InWork}
use Rattle.mdv_run_law.specs.Lives.{Ran, AreAsked, AreOfRuns, AreSaid, IsBetween, MayHaveEnded, OfHost, host_of}
use Rattle.mdv_run_law.proofs.Deeds.{part_contains}
use Rattle.mdv_volumes.specs.HistoryLaws.{KeepDatabase}

-- what lines may have begun, of which these events begin a part; and what their replies tell, which is all that these events tell
pub record Answers (Asked Said : List Deed → Type 0) (es : List Event) : Type 0 where
  pub asked : List Deed
  pub are_asked : Asked asked
  pub begins : IsPart (issued_by es) asked
  pub said : List Deed
  pub are_said : Said said
  pub tells : told_by es ≡ said

-- both parts of some events begin what both were asked, and tell what both tell
answers_both : (Asked Said : List Deed → Type 0) (es first rest : List Event) (asked more said others : List Deed) → es ≡ first ++ rest → Asked (asked ++ more) → Said (said ++ others)
    → IsPart (issued_by first) asked → IsPart (issued_by rest) more → told_by first ≡ said → told_by rest ≡ others → Answers Asked Said es
answers_both Asked Said es first rest asked more said others is are_asked are_said begins begin tells tell = record {
  asked = asked ++ more;
  are_asked = are_asked;
  begins = subst (λ (l : List Deed). IsPart l (asked ++ more)) (sym (ap issued_by is ∙ all_more history.begins first rest)) (part_more (issued_by first) asked (issued_by rest) more begins begin);
  said = said ++ others;
  are_said = are_said;
  tells = ap told_by is ∙ all_more history.tells first rest ∙ ap (λ (l : List Deed). l ++ told_by rest) tells ∙ ap (λ (l : List Deed). said ++ l) tell;
}

idle_answers : (host : Host) (Asked Said : List Deed → Type 0) (es : List Event) → Asked [] → Said [] → AreIdle host es → Answers Asked Said es
idle_answers host Asked Said es none nothing idle = record { asked = []; are_asked = none; begins = idle.begins; said = []; are_said = nothing; tells = idle.tells }

none_answers : (Asked Said : List Deed → Type 0) (es : List Event) → Asked [] → Said [] → es ≡ [] → Answers Asked Said es
none_answers Asked Said es none nothing empty = record { asked = []; are_asked = none; begins = subst (λ (l : List Event). IsPart (issued_by l) []) (sym empty) tt; said = []; are_said = nothing; tells = ap told_by empty }

work_answers : (host : Host) (front : List ℕ) (down : Context) (script : Script) (es : List Event) → InWork host front down script es → Answers (AreBegun host script [] front) (AreTold host script [] front) es
work_answers host front down at_end es work = idle_answers host (AreBegun host at_end [] front) (AreTold host at_end [] front) es refl refl work
work_answers host front down (spent lines bytes) es work = idle_answers host (AreBegun host (spent lines bytes) [] front) (AreTold host (spent lines bytes) [] front) es refl refl work
work_answers host front down (too_long more) es work = idle_answers host (AreBegun host (too_long more) [] front) (AreTold host (too_long more) [] front) es refl refl work
work_answers host front down (line text more) es (inl none) = none_answers (AreBegun host (line text more) [] front) (AreTold host (line text more) [] front) es (inl refl) (inl refl) none.1
work_answers host front down (line text more) es (inr (known, work)) = record {
  asked = issuable_front work.ask front;
  are_asked = inr (work.ask, work.asks, refl);
  begins = work.does.begins;
  said = work.done;
  are_said = inr (work.ask, work.asks, work.acks);
  tells = work.does.tells;
}

come_answers : (host : Host) (front : List ℕ) (down : Context) (script : Script) (replies : List (List ℕ)) (es : List Event) → ComeOf host (InWork host front) down script replies es → Answers (AreBegun host script replies front) (AreTold host script replies front) es
come_answers host front down script [] es come = work_answers host front down script es come
come_answers host front down at_end (reply ∷ replies) es come = idle_answers host (AreBegun host at_end (reply ∷ replies) front) (AreTold host at_end (reply ∷ replies) front) es refl refl come
come_answers host front down (spent lines bytes) (reply ∷ replies) es come =
    idle_answers host (AreBegun host (spent lines bytes) (reply ∷ replies) front) (AreTold host (spent lines bytes) (reply ∷ replies) front) es refl refl come
come_answers host front down (too_long more) (reply ∷ replies) es come =
    let rest = come_answers host front down more replies come.1 come.4 in
    answers_both (AreBegun host (too_long more) (reply ∷ replies) front) (AreTold host (too_long more) (reply ∷ replies) front) es come.0 come.1 [] rest.asked [] rest.said come.2 rest.are_asked rest.are_said
    come.3.begins rest.begins come.3.tells rest.tells
come_answers host front down (line text more) (reply ∷ replies) es come =
    let of_line = come.4 in
    let rest = come_answers host front come.3 more replies come.1 come.6 in
    answers_both (AreBegun host (line text more) (reply ∷ replies) front) (AreTold host (line text more) (reply ∷ replies) front) es come.0 come.1 (issuable of_line.ask reply) rest.asked of_line.done rest.said come.2
    (of_line.ask, of_line.asks, rest.asked, rest.are_asked, refl) (of_line.ask, of_line.asks, of_line.done, of_line.acks, rest.said, rest.are_said, refl)
    of_line.does.begins rest.begins of_line.does.tells rest.tells

-- what happens between two runs tells nothing, and begins nothing
pub between_tells : (end : List Event) → IsBetween end → told_by end ≡ []
between_tells end (inl is) = ap told_by is
between_tells end (inr is) = ap told_by is

between_begins : (end : List Event) → IsBetween end → issued_by end ≡ []
between_begins end (inl is) = ap issued_by is
between_begins end (inr is) = ap issued_by is

-- so a run and what comes behind it tells what the run does
pub told_ended : (run end : List Event) → IsBetween end → told_by (run ++ end) ≡ told_by run
told_ended run end between = all_more history.tells run end ∙ ap (λ (l : List Deed). told_by run ++ l) (between_tells end between) ∙ append-nil (told_by run)

issued_ended : (run end : List Event) → IsBetween end → issued_by (run ++ end) ≡ issued_by run
issued_ended run end between = all_more history.begins run end ∙ ap (λ (l : List Deed). issued_by run ++ l) (between_begins end between) ∙ append-nil (issued_by run)

ended_answers : (Asked Said : List Deed → Type 0) (run end : List Event) → IsBetween end → Answers Asked Said run → Answers Asked Said (run ++ end)
ended_answers Asked Said run end between answers = record {
  asked = answers.asked;
  are_asked = answers.are_asked;
  begins = subst (λ (l : List Deed). IsPart l answers.asked) (sym (issued_ended run end between)) answers.begins;
  said = answers.said;
  are_said = answers.are_said;
  tells = told_ended run end between ∙ answers.tells;
}

-- those of a run
pub run_answers : (host : Host) (script : Script) (bytes : List ℕ) (es : List Event) → AreOfRun host script bytes es → Answers (AreBegun host script (replies_in bytes) (left_in bytes)) (AreTold host script (replies_in bytes) (left_in bytes)) es
run_answers host script bytes es run =
    let lines = come_answers host (left_in bytes) (Some []) script (replies_in bytes) run.lines run.come in
    answers_both (AreBegun host script (replies_in bytes) (left_in bytes)) (AreTold host script (replies_in bytes) (left_in bytes)) es run.boot run.lines [] lines.asked [] lines.said run.both lines.are_asked lines.are_said
    run.idle.begins lines.begins run.idle.tells lines.tells

-- what a run may have begun, and what it told, of this host: nothing, where it is another host's
abbrev BegunBy : Geometry → List ℕ → Ran → List Deed → Type 0
BegunBy drives name ran asked = OfHost name ran (AreBegun (host_of drives name ran.fresh) ran.script (replies_in ran.bytes) (left_in ran.bytes) asked) (asked ≡ [])

abbrev ToldBy : Geometry → List ℕ → Ran → List Deed → Type 0
ToldBy drives name ran said = OfHost name ran (AreTold (host_of drives name ran.fresh) ran.script (replies_in ran.bytes) (left_in ran.bytes) said) (said ≡ [])

host_answers : (drives : Geometry) (name : List ℕ) (ran : Ran) (es : List Event) → OfHost name ran (AreOfRun (host_of drives name ran.fresh) ran.script ran.bytes es) (es ≡ []) → Answers (BegunBy drives name ran) (ToldBy drives name ran) es
host_answers drives name ran es (inl (same, run)) =
    let answers = run_answers (host_of drives name ran.fresh) ran.script ran.bytes es run in
    record { asked = answers.asked; are_asked = inl (same, answers.are_asked); begins = answers.begins; said = answers.said; are_said = inl (same, answers.are_said); tells = answers.tells }
host_answers drives name ran es (inr (differ, none)) = none_answers (BegunBy drives name ran) (ToldBy drives name ran) es (inr (differ, refl)) (inr (differ, refl)) none

-- the same of runs
pub runs_answer : (drives : Geometry) (name : List ℕ) (ran : List Ran) (es : List Event) → AreOfRuns drives name ran es → Answers (AreAsked drives name ran) (AreSaid drives name ran) es
runs_answer drives name [] es none = none_answers (AreAsked drives name []) (AreSaid drives name []) es refl refl none
runs_answer drives name (ran ∷ before) es are =
    let old = runs_answer drives name before are.0 are.4 in
    let new = ended_answers (BegunBy drives name ran) (ToldBy drives name ran) are.1 are.2 are.6 (host_answers drives name ran are.1 are.5) in
    answers_both (AreAsked drives name (ran ∷ before)) (AreSaid drives name (ran ∷ before)) es are.0 (are.1 ++ are.2) old.asked new.asked old.said new.said are.3
    (old.asked, old.are_asked, new.asked, new.are_asked, refl) (old.said, old.are_said, new.said, new.are_said, refl)
    old.begins new.begins old.tells new.tells

-- so no end of the host's database begins, where no line of them may have begun one
pub runs_keep : (drives : Geometry) (name : List ℕ) (ran : List Ran) (es : List Event) → AreOfRuns drives name ran es → (MayHaveEnded drives name ran → ⊥) → KeepDatabase (Local name) es
runs_keep drives name ran es are never has =
    let answers = runs_answer drives name ran es are in
    never (answers.asked, answers.are_asked, part_contains (issued_by es) answers.asked (Deleted (Local name)) answers.begins has)
