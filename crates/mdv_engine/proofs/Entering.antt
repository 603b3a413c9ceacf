-- What a `tab` block comes to, told of the engine that kept its entries or didn't.
use Rattle.std.proofs.Common.{◌≡◌, ◌≤◌, ◌+◌, inl, inr, ℕ, List, length, refl, sym, ap, subst, ◌∙◌, arith}
use Rattle.mdv_base.specs.declared.refusal.Refusal.TheVariants as refusal
use Rattle.mdv_tab.specs.Text.{IsFaultOf}
use Rattle.mdv_tab.specs.declared.read.TabFault.{TabFault}
use Rattle.mdv_tab.specs.declared.read.TabFault.TheVariants as fault
use Rattle.mdv_shelf.specs.Made.{Made, and_more}
use Rattle.mdv_shelf.specs.Everywhere.{Image}
use Rattle.mdv_status.specs.Values.{entries_reply}
use Rattle.mdv_engine_law.specs.Commands as came
use Rattle.mdv_engine_law.specs.Commands.{IsTabRefusal, KeepsTab}
use Rattle.mdv_engine_law.specs.Efforts.{NoCalls}
use Rattle.mdv_engine_law.specs.Line.{Nothing, contents}
use Rattle.mdv_engine_law.specs.Replies.{IsPlainOutcome, text_of}
use Rattle.mdv_engine_law.specs.declared.answer.Answer.TheVariants.{Said}
use Rattle.mdv_engine_law.specs.declared.answer.Outcome.{Outcome}
use Rattle.mdv_engine_law.specs.declared.answer.Outcome.TheVariants as outcome
use Rattle.mdv_engine_law.specs.declared.answer.Reply.{Reply}
use Rattle.mdv_engine_law.proofs.Executing.{content_kept}
use Rattle.mdv_words.proofs.Tabs.{entries_are_in_form}
use Rattle.mdv_engine_law.proofs.Plain.{bad_line_plain, memory_plain, too_many_plain}
use Rattle.mdv_engine_law.proofs.Turning.{carry_none, entered_none, refused_none, turn_tell, turned}
use Rattle.mdv_engine_law.proofs.Knowing.{knows_kept}
use Rattle.mdv_engine.specs.Below.{AreCalm, Outcomes, Refusal, Tale, CarriedTo, IsPlain, Knows, OnlyReplied, TellMoment, TurnMoment, kept_at}
use Rattle.mdv_engine.specs.declared.engine.Engine.{Engine}
use Rattle.mdv_engine.specs.Engine.{IsWell}
use Rattle.mdv_engine.specs.Tab.{HasKept, IsRefusalOf, TabEnd, all, none, with_entries}

refusal_plain : (lines : List ℕ) (r : Refusal) → IsTabRefusal lines r → IsPlain r
refusal_plain lines refusal.BadLine why = bad_line_plain
refusal_plain lines refusal.TooMany why = too_many_plain
refusal_plain lines other why = absurd why

-- a text that isn't read
pub refused_kept : (lines : List ℕ) (old : Engine) (why : TabFault) (r : Refusal) → IsFaultOf lines why → IsRefusalOf why r → HasKept old lines (outcome.Refused r) old
refused_kept lines old (fault.BadLine number) r is so = none r (inl (subst (IsTabRefusal lines) (sym so) (number, is))) refl refl
refused_kept lines old fault.TooMany r is so = none r (inl (subst (IsTabRefusal lines) (sym so) is)) refl refl
refused_kept lines old fault.Memory r is so = none r (inr so) refl refl

module _ (lines : List ℕ) where
  -- what the answer says
  pub kept_plain : (old new : Engine) (this : Outcome) → HasKept old lines this new → IsPlainOutcome this
  kept_plain old new this (all entries tab is now) = subst IsPlainOutcome (sym is) (inr (inl (record { count = length entries; is = refl })))
  kept_plain old new this (none r (inl why) is now) = subst IsPlainOutcome (sym is) (refusal_plain lines r why)
  kept_plain old new this (none r (inr want) is now) = subst IsPlainOutcome (sym is) (subst IsPlain (sym want) memory_plain)

  -- what the engine is then
  pub kept_host : (old new : Engine) (this : Outcome) → HasKept old lines this new → new.host ≡ old.host
  kept_host old new this (all entries tab is now) = ap (λ (e : Engine). e.host) now
  kept_host old new this (none r why is now) = ap (λ (e : Engine). e.host) now

  pub kept_well : (old new : Engine) (this : Outcome) → HasKept old lines this new → IsWell old.host old.state → IsWell old.host new.state
  kept_well old new this (all entries tab is now) well = subst (λ (e : Engine). IsWell old.host e.state) (sym now) (record { database = well.database; entries = entries_are_in_form lines entries tab })
  kept_well old new this (none r why is now) well = subst (λ (e : Engine). IsWell old.host e.state) (sym now) well

  pub kept_begun : (old new : Engine) (this : Outcome) → HasKept old lines this new → new.state.begun ≤ old.state.begun + 1
  kept_begun old new this (all entries tab is now) = subst (λ (e : Engine). e.state.begun ≤ old.state.begun + 1) (sym now) (omega arith)
  kept_begun old new this (none r why is now) = subst (λ (e : Engine). e.state.begun ≤ old.state.begun + 1) (sym now) (omega arith)

  -- what the block came to
  pub kept_comes : (old new : Engine) (this : Outcome) → HasKept old lines this new → (calls : Outcomes) → AreCalm calls → (content : Image)
      → KeepsTab calls (record { memory = old.state; content = content }) lines (Said this) (record { memory = new.state; content = content })
  kept_comes old new this (all entries tab is now) calls calm content = came.entered calm entries tab (ap Said is) (ap (λ (e : Engine). e.state) now) (λ drive block. refl)
  kept_comes old new this (none r (inl why) is now) calls calm content = came.unfit calm r why (ap Said is, record { memory = ap (λ (e : Engine). e.state) now; content = λ drive block. refl })
  kept_comes old new this (none r (inr want) is now) calls calm content = came.unread calm (ap Said (is ∙ ap outcome.Refused want)) (record { memory = ap (λ (e : Engine). e.state) now; content = λ drive block. refl })

  -- and what it led to
  pub kept_carried : (old new : Engine) (this : Outcome) → HasKept old lines this new → (t : Tale) → CarriedTo old.host Nothing old.state (Said this) new.state t t
  kept_carried old new this (all entries tab is now) t =
      subst (λ (e : Engine). CarriedTo old.host Nothing old.state (Said this) e.state t t) (sym now)
      (subst (λ (o : Outcome). CarriedTo old.host Nothing old.state (Said o) (with_entries old entries).state t t) (sym is) (entered_none old.host old.state entries (entries_reply (length entries)) t))
  kept_carried old new this (none r why is now) t =
      subst (λ (e : Engine). CarriedTo old.host Nothing old.state (Said this) e.state t t) (sym now)
      (subst (λ (o : Outcome). CarriedTo old.host Nothing old.state (Said o) old.state t t) (sym is) (refused_none old.host Nothing old.state r t))

  pub kept_knows : (old new : Engine) (this : Outcome) → HasKept old lines this new → (t : Tale) → Knows old.host old.state t → Knows old.host new.state t
  kept_knows old new this (all entries tab is now) t knows = subst (λ (e : Engine). Knows old.host e.state t) (sym now) (record { opened = knows.opened; steady = knows.steady })
  kept_knows old new this (none r why is now) t knows = subst (λ (e : Engine). Knows old.host e.state t) (sym now) knows

  module _ (old new : Engine) (this : Outcome) (kept : HasKept old lines this new) where
    -- while it is told
    pub kept_told : (t m : Tale) → TellMoment (text_of (Said this)) t m → TurnMoment old.host Nothing old.state t m
    kept_told t m tell =
        turn_tell old.host Nothing old.state new.state (Said this) (kept_plain old new this kept) t t (carry_none old.host Nothing old.state t) (kept_carried old new this kept t) m tell

    -- and once it was
    pub kept_end : (calls : Outcomes) (replies : Type 0) (made : Made) (given : Reply) (t u : Tale) → AreCalm calls → NoCalls (and_more 1 made) → OnlyReplied replies (Said this) given t u → TabEnd calls replies made old lines given new t u
    kept_end calls replies made given t u calm none_made told = record {
      answered = record {
        answer = Said this;
        carried = subst (λ (content : Image). KeepsTab calls (kept_at old.state t) lines (Said this) (record { memory = new.state; content = content })) (content_kept t u told.kept) (kept_comes old new this kept calls calm (contents t));
        effort = none_made;
        replied = told.replied;
      };
      turned = λ on. turned old.host Nothing old.state new.state replies t t u refl (Said this) (kept_plain old new this kept) (kept_carried old new this kept t) given on told;
      knows = λ knows. knows_kept old.host t u told.kept new.state (kept_knows old new this kept t knows);
      kept = told.kept;
    }
