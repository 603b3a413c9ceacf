-- What the moments of a line and of its reply leave of the history.
use Rattle.std.proofs.Common.{◌≡◌, ◌⊎◌, inl, inr, ℕ, List, [], ◌++◌, take, Option, Contains, refl, sym, ◌∙◌, ap, subst, arith}
use Rattle.std.proofs.lemmas.List.{append-nil}
use Rattle.mdv_engine_law.specs.Below.{Entry, Refusal, KeptOutside, nowhere, Moments, Ends, Tale, told, History, Deed, Created, Event}
use Rattle.mdv_store_law.specs.Part.{IsPart}
use Rattle.mdv_store_law.proofs.Parts.{part_itself}
use Rattle.mdv_shelf.proofs.Frame.{kept_outside_same}
use Rattle.mdv_shelf.proofs.Moments.{moments_end, ends_both}
use Rattle.mdv_engine_law.specs.declared.answer.Answer.{Answer}
use Rattle.mdv_engine_law.specs.declared.answer.Answer.TheVariants.{Said, Over}
use Rattle.mdv_engine_law.specs.declared.answer.Outcome.TheVariants as outcome
use Rattle.mdv_engine_law.specs.declared.answer.Outcome.{Outcome}
use Rattle.mdv_engine_law.specs.declared.answer.Reply.{Reply}
use Rattle.mdv_engine_law.specs.declared.host.Host.{Host}
use Rattle.mdv_engine_law.specs.Answers.{IsSaid}
use Rattle.mdv_engine_law.specs.Hosts.{key_of}
use Rattle.mdv_engine_law.specs.Line.{Ask, Nothing, deeds, Memory}
use Rattle.mdv_engine_law.specs.Replies.{IsPlain, IsPlainAnswer, IsPlainOutcome, outcome_text, IsAccepted, IsReply, IsReplied, IsLost, issuable, issuable_of, issued_by, ok_line, refusal_line, text_of}
use Rattle.mdv_engine_law.specs.Standing.{Goes, HasMet, IsBare, Reached, Knows, IsKnown, CarryMoment, CarriedTo, CanTellAll, IsKnownAfter, TellMoment, TurnMoment, Turned, OnlyReplied}
use Rattle.mdv_engine_law.proofs.Going.{met_or, not_among, goes_none, goes_more, goes_weaker}
use Rattle.mdv_engine_law.proofs.Knowing.{knows_kept, known_kept}
use Rattle.mdv_engine_law.proofs.Deeds.{told_all}
use Rattle.mdv_engine_law.proofs.Staying.{stays_more, stays_same, stays_still}
use Rattle.mdv_engine_law.proofs.Writing.{writes_none, writes_still}
use Rattle.mdv_engine_law.proofs.Longer.{ended_lost, never_ended}
use Rattle.mdv_engine_law.proofs.Plain.{front_of, nothing_said, nothing_acked, nothing_issuable, TellsAll, ReplyWay, ok_way, values_way, refusal_way, ways, ok_reply, values_are_reply, refusal_reply}

-- nothing is among no deeds
pub never_among : (deeds : List Deed) (deed : Deed) → deeds ≡ [] → Contains deeds deed → ⊥
never_among deeds deed none has = absurd (let in_none : Contains [] deed = subst (λ (l : List Deed). Contains l deed) none has in omega (arith, in_none.1))

module _ (host : Host) (ask : Ask) (old : Memory) where
  -- while a line is carried out
  pub turn_carry : (t m : Tale) → CarryMoment host ask old t m → TurnMoment host ask old t m
  turn_carry t m carry = record {
    home = carry.home;
    within = carry.within;
    bytes = [];
    is_told = carry.quiet ∙ sym (append-nil (told t));
    front = inl nothing_said;
    done = [];
    acks = nothing_acked ask;
    free = λ has. absurd (never_among [] (Created (key_of host)) refl has);
    goes = λ h known. met_or (subst (λ (may : List Deed). Goes host may [] Reached m h) (sym (nothing_issuable ask))) (carry.goes h known);
  }

  -- a line that leaves all as it was
  pub carry_none : (t : Tale) → CarryMoment host ask old t t
  carry_none t = record { home = stays_same host t; within = writes_none host old ask t t (kept_outside_same nowhere t); quiet = refl; goes = λ h known. inr (goes_none host (deeds ask) Reached t h known.stands tt) }

  module _ (new : Memory) where
    -- what is known behind an answer that is accepted
    accepted_known : (done : List Deed) (answer : Answer) (h : History) (u : Tale) → IsAccepted answer → IsKnownAfter host done answer new h u → IsKnown host new h u × CanTellAll host done h
    accepted_known done (Said outcome.Ok) h u on is = is
    accepted_known done (Said (outcome.Values text)) h u on is = is
    accepted_known done (Said (outcome.Refused refusal)) h u on is = absurd on
    accepted_known done (Over end) h u on is = absurd on

    module _ (answer : Answer) (t u : Tale) (carried : CarriedTo host ask old answer new t u) (v : Tale) (kept : KeptOutside nowhere u v) (may : List Deed) (lets : IsPart (issued_by ask answer) may) where
      -- a history that goes on by the telling of what was done
      then_told : IsAccepted answer → (h : History) → IsKnown host old h t → HasMet host ask h t ⊎ Goes host may carried.done (λ es after. IsKnown host new after v) v h
      then_told on h known = met_or
          (λ goes. goes_more host (issued_by ask answer) [] may [] carried.done (λ es after. IsKnownAfter host carried.done answer new after u) (λ es after. IsKnown host new after v) u v h
          (subst (λ (l : List Deed). IsPart l may) (sym (append-nil (issued_by ask answer))) lets) goes
          (λ es g stands is. (let one = accepted_known carried.done answer g u on is in told_all host new u v kept g one.0 carried.done one.1)))
          (carried.goes h known)

      -- and by nothing more
      then_still : (Then : List Event → History → Type 0) → ((es : List Event) (g : History) → IsKnownAfter host carried.done answer new g u → Then es g) → (h : History) → IsKnown host old h t → HasMet host ask h t ⊎ Goes host may [] Then v h
      then_still Then less h known = met_or (goes_weaker host (issued_by ask answer) may [] (λ es after. IsKnownAfter host carried.done answer new after u) Then u v h lets kept less) (carried.goes h known)

      -- the history by then
      then_goes : (said : List Deed) → TellsAll ask answer carried.done said → (h : History) → IsKnown host old h t → HasMet host ask h t ⊎ Goes host may said Reached v h
      then_goes said (inl none) h known = met_or (subst (λ (l : List Deed). Goes host may l Reached v h) (sym none)) (then_still Reached (λ es g is. tt) h known)
      then_goes said (inr (on, all)) h known = met_or
          (λ goes. subst (λ (l : List Deed). Goes host may l Reached v h) (sym all)
          (goes_weaker host may may carried.done (λ es after. IsKnown host new after v) Reached v v h (part_itself may) (kept_outside_same nowhere v) (λ es g is. tt) goes))
          (then_told on h known)

    module _ (answer : Answer) where
      only_free : (done said : List Deed) → (Contains done (Created (key_of host)) → IsBare old) → TellsAll ask answer done said → Contains said (Created (key_of host)) → IsBare old
      only_free done said free (inl none) has = absurd (never_among said (Created (key_of host)) none has)
      only_free done said free (inr (on, all)) has = free (subst (λ (l : List Deed). Contains l (Created (key_of host))) all has)

      module _ (plain : IsPlainAnswer answer) (t u : Tale) (carry : CarryMoment host ask old t u) (carried : CarriedTo host ask old answer new t u) where
        -- while the answer is told
        pub turn_tell : (m : Tale) → TellMoment (text_of answer) u m → TurnMoment host ask old t m
        turn_tell m tell =
            let way = ways ask answer plain carried.done carried.acks tell.count in
            record {
              home = stays_more host t u m carry.home (stays_still host u m tell.kept);
              within = writes_still host old ask t u m carry.within tell.kept;
              bytes = take tell.count (text_of answer);
              is_told = tell.is_told ∙ ap (λ (l : List ℕ). l ++ take tell.count (text_of answer)) carry.quiet;
              front = front_of answer plain tell.count;
              done = way.told;
              acks = way.acks;
              free = only_free carried.done way.told carried.free way.all;
              goes = then_goes answer t u carried m tell.kept (issuable_of ask (take tell.count (text_of answer))) way.lets way.told way.all;
            }

    -- a reply that was told whole
    module _ (failed : Type 0) (t u v : Tale) (quiet : told u ≡ told t) where
      accepted_turned : (answer : Answer) → IsAccepted answer → (carried : CarriedTo host ask old answer new t u) → (Knows host old t → Knows host new u)
          → (piece : List ℕ) → IsReply piece → ReplyWay ask answer carried.done piece carried.done → told v ≡ told u ++ piece → KeptOutside nowhere u v → Turned host ask old new t v
      accepted_turned answer on carried knows piece whole way more kept = record {
        bytes = piece;
        is_told = more ∙ ap (λ (l : List ℕ). l ++ piece) quiet;
        reply = whole;
        done = carried.done;
        acks = way.acks;
        free = carried.free;
        knows = λ before. knows_kept host u v kept new (knows before);
        goes = then_told answer t u carried v kept (issuable ask piece) way.lets on;
      }

      refused_turned : (r : Refusal) → IsPlainAnswer (Said (outcome.Refused r)) → CarriedTo host ask old (Said (outcome.Refused r)) new t u → (piece : List ℕ) → piece ≡ refusal_line r → told v ≡ told u ++ piece → KeptOutside nowhere u v → Turned host ask old new t v
      refused_turned r plain carried piece is more kept =
          let way = refusal_way ask r carried.done in
          record {
            bytes = refusal_line r;
            is_told = more ∙ ap (λ (l : List ℕ). told u ++ l) is ∙ ap (λ (l : List ℕ). l ++ refusal_line r) quiet;
            reply = refusal_reply r plain;
            done = [];
            acks = way.acks;
            free = λ has. absurd (never_among [] (Created (key_of host)) refl has);
            knows = λ before. knows_kept host u v kept new (carried.knows before);
            goes = then_still (Said (outcome.Refused r)) t u carried v kept (issuable ask (refusal_line r)) way.lets (λ es after. IsKnown host new after v) (λ es g is. known_kept host u v kept new g is);
          }

      said_turned : (this : Outcome) → IsPlainOutcome this → CarriedTo host ask old (Said this) new t u → (piece : List ℕ) → piece ≡ outcome_text this → told v ≡ told u ++ piece
          → KeptOutside nowhere u v → Turned host ask old new t v
      said_turned outcome.Ok plain carried piece is more kept =
          accepted_turned (Said outcome.Ok) tt carried carried.knows ok_line ok_reply (ok_way ask carried.done carried.acks) (more ∙ ap (λ (l : List ℕ). told u ++ l) is) kept
      said_turned (outcome.Values text) plain carried piece is more kept =
          accepted_turned (Said (outcome.Values text)) tt carried carried.knows text (values_are_reply text plain) (values_way ask text carried.done carried.acks) (more ∙ ap (λ (l : List ℕ). told u ++ l) is) kept
      said_turned (outcome.Refused refusal) plain carried piece is more kept = refused_turned refusal plain carried piece is more kept

      -- by a moment by which its text was told
      pub whole_turned : (answer : Answer) → IsSaid answer → IsPlainAnswer answer → CarriedTo host ask old answer new t u → told v ≡ told u ++ text_of answer → KeptOutside nowhere u v → Turned host ask old new t v
      whole_turned (Said this) said plain carried more kept = said_turned this plain carried (outcome_text this) refl more kept
      whole_turned (Over end) said plain carried more kept = absurd said

      pub turned : (answer : Answer) → IsPlainAnswer answer → CarriedTo host ask old answer new t u → (r : Reply) → IsReplied r → OnlyReplied failed answer r u v → Turned host ask old new t v
      turned (Said this) plain carried r on given = elim given.replied.as_told [
        | inl whole ↦ said_turned this plain carried given.replied.piece whole.1 given.replied.is_told given.kept
        | inr cut ↦ absurd (let never : ⊥ = subst IsReplied cut.given_is on in never)
      ]
      turned (Over end) plain carried r on given = absurd (never_ended end (subst IsReplied given.replied.as_told.0 on))

      -- unless the run is over without a reply, what is known of the drive is known behind the reply
      pub knows_after : (answer : Answer) → CarriedTo host ask old answer new t u → (r : Reply) → (IsLost r → ⊥) → OnlyReplied failed answer r u v → Knows host old t → Knows host new v
      knows_after (Said this) carried r on given knows = knows_kept host u v given.kept new (carried.knows knows)
      knows_after (Over end) carried r on given knows = absurd (on (subst IsLost (sym given.replied.as_told.0) (ended_lost end)))

-- what is known once a line was carried out
abbrev pub Carried : Host → Ask → Memory → Memory → Answer → Tale → Tale → Type 0
Carried host ask old new answer t u = CarryMoment host ask old t u × CarriedTo host ask old answer new t u

pub carried_ends : (host : Host) (ask : Ask) (old new : Memory) (answer : Answer) (a b : Option Tale) → Moments (CarryMoment host ask old) a b → Ends (CarriedTo host ask old answer new) a b → Ends (Carried host ask old new answer) a b
carried_ends host ask old new answer a b moments carried =
    ends_both (CarryMoment host ask old) (CarriedTo host ask old answer new) (Carried host ask old new answer) a b (λ t u carry to. (carry, to)) (moments_end (CarryMoment host ask old) a b moments) carried

-- a line that is refused before anything is done
pub refused_none : (host : Host) (ask : Ask) (memory : Memory) (r : Refusal) (t : Tale) → CarriedTo host ask memory (Said (outcome.Refused r)) memory t t
refused_none host ask memory r t = record {
  done = [];
  acks = refl;
  free = λ has. absurd (not_among (Created (key_of host)) has);
  goes = λ h known. inr (goes_none host (issued_by ask (Said (outcome.Refused r))) (λ es after. IsKnown host memory after t) t h known.stands known);
  knows = λ knows. knows;
}

-- and a boot that was answered, by which nothing was asked
pub accepted_none : (host : Host) (memory : Memory) (t : Tale) → CarriedTo host Nothing memory (Said outcome.Ok) memory t t
accepted_none host memory t = record {
  done = [];
  acks = refl;
  free = λ has. absurd (not_among (Created (key_of host)) has);
  goes = λ h known. inr (goes_none host [] (λ es after. IsKnownAfter host [] (Said outcome.Ok) memory after t) t h known.stands (known, tt));
  knows = λ knows. knows;
}

-- and a block of entries, of which the drive knows nothing
pub entered_none : (host : Host) (memory : Memory) (entries : List Entry) (text : List ℕ) (t : Tale) → CarriedTo host Nothing memory (Said (outcome.Values text)) (record memory { entries = entries }) t t
entered_none host memory entries text t = record {
  done = [];
  acks = refl;
  free = λ has. absurd (not_among (Created (key_of host)) has);
  goes = λ h known. inr (goes_none host [] (λ es after. IsKnownAfter host [] (Said (outcome.Values text)) (record memory { entries = entries }) after t) t h known.stands (record { stands = known.stands; its = known.its; is_open = known.is_open; free = known.free; up = known.up; woken = known.woken; knows = still known.knows }, tt));
  knows = still;
}
  where
    still : Knows host memory t → Knows host (record memory { entries = entries }) t
    still known = record { opened = known.opened; steady = known.steady }

-- a reply that was told, where nothing else was done: a refusal, whatever the line asks, and the `ok` of one that asks nothing
module _ (host : Host) (memory : Memory) where
  pub refusal_told : (ask : Ask) (r : Refusal) → IsPlain r → (t m : Tale) → TellMoment (refusal_line r) t m → TurnMoment host ask memory t m
  refusal_told ask r plain t m tell =
      turn_tell host ask memory memory (Said (outcome.Refused r)) plain t t (carry_none host ask memory t) (refused_none host ask memory r t) m tell

  pub refusal_turned : (ask : Ask) (r : Refusal) → IsPlain r → (failed : Type 0) (t u : Tale) (given : Reply) → IsReplied given → OnlyReplied failed (Said (outcome.Refused r)) given t u → Turned host ask memory memory t u
  refusal_turned ask r plain failed t u given on told =
      turned host ask memory memory failed t t u refl (Said (outcome.Refused r)) plain (refused_none host ask memory r t) given on told

  pub ok_told : (t m : Tale) → TellMoment ok_line t m → TurnMoment host Nothing memory t m
  ok_told t m tell = turn_tell host Nothing memory memory (Said outcome.Ok) tt t t (carry_none host Nothing memory t) (accepted_none host memory t) m tell

  pub ok_turned : (failed : Type 0) (t u : Tale) (given : Reply) → IsReplied given → OnlyReplied failed (Said outcome.Ok) given t u → Turned host Nothing memory memory t u
  ok_turned failed t u given on told =
      turned host Nothing memory memory failed t t u refl (Said outcome.Ok) tt (accepted_none host memory t) given on told

  -- and what was known is known
  pub told_knows : (failed : Type 0) (answer : Answer) (given : Reply) (t u : Tale) → OnlyReplied failed answer given t u → Knows host memory t → Knows host memory u
  told_knows failed answer given t u told = knows_kept host t u told.kept memory
