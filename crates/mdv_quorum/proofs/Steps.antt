-- Each event keeps the invariant, and so does every list of events.
use Rattle.std.proofs.Common.{◌≡◌, ℕ, Bool, true, refl, List, [], ◌∷◌, ◌++◌, None, Some, arith}
use Rattle.std.proofs.lemmas.Bool.{false≢true}
use Rattle.mdv_quorum.specs.Below.{DriveNo, Never, Listed, Dropped}
use Rattle.mdv_quorum.specs.declared.event.Event.{Event}
use Rattle.mdv_quorum.specs.declared.event.Event.TheVariants.{Read, Claimed, Slotted, Formatted, Wiped, Lists, Told, Crash, Lose, Back}
use Rattle.mdv_quorum.specs.declared.machine.Core.{Core}
use Rattle.mdv_quorum.specs.World.{start, happens, after_all, without_drive, crashed}
use Rattle.mdv_quorum.specs.May.{may, MayAll}
use Rattle.mdv_quorum.proofs.Boots.{read_ok, claimed_ok}
use Rattle.mdv_quorum.proofs.Writes.{slotted_ok, told_ok}
use Rattle.mdv_quorum.proofs.Formats.{formatted_ok, wiped_ok}
use Rattle.mdv_quorum.proofs.Changed.{lists_event_ok}
use Rattle.mdv_quorum.proofs.More.{none_some}
use Rattle.mdv_quorum.proofs.Invariant.{Inv}

none_is : (j : ℕ) → None ≡ Some j → ⊥
none_is j e = cc

start_ok : (set : Bool) → Inv (start set)
start_ok set = record {
  base = record {
    tables = record { marks = λ i j h hj. absurd (omega (arith, hj)); made = λ i h. absurd (omega (arith, h)); lists = λ i h. absurd (omega (arith, h)) };
    common = λ i j hi hj li lj. absurd (omega (arith, hi));
    plans = record { issued = λ i h live. absurd (omega (arith, h)); holds_told = λ i h live. absurd (omega (arith, h)); descends = λ f i e le h. absurd (omega (arith, h)); nothing = λ e. refl };
    places = record {
      firm_in = λ f e. absurd (none_is f e);
      shows = λ p j e. absurd (none_is j e);
      beaten = λ f i e h. absurd (none_is f e);
      numbers = λ i u read knows hi hu live r. absurd (omega (arith, hi));
      listed = λ f p e has held. absurd (none_is f e);
      listed_in = λ p e. absurd (not_listed e);
      dropped = λ p m e. absurd (not_dropped m e);
      low = λ p some. absurd (omega (arith, some));
      covered = λ f e there. absurd (none_is f e);
      gone = λ p e. absurd (none_some p e);
      unused = λ e. refl;
    };
  };
  stage = record { gone = λ q e has. false≢true has };
}
  where
    not_listed : Never ≡ Listed → ⊥
    not_listed e = cc

    not_dropped : (m : ℕ) → Never ≡ Dropped m → ⊥
    not_dropped m e = cc

crash_ok : (w : Core) → Inv w → Inv (crashed w)
crash_ok w i =
    let b = i.base in
    record {
      base = record { tables = b.tables; common = b.common; plans = b.plans; places = b.places };
      stage = record { gone = λ q e has. false≢true has };
    }

-- other drives are lost
drives_ok : (w : Core) (lost : List DriveNo) → Inv w → Inv (record w { lost = lost })
drives_ok w lost i =
    let b = i.base in
    record { base = record { tables = b.tables; common = b.common; plans = b.plans; places = b.places }; stage = i.stage }

pub step_ok : (w : Core) (e : Event) → Inv w → may w e ≡ true → Inv (happens w e)
step_ok w (Read p) i m = read_ok w p w.stage i.base i.stage m
step_ok w (Claimed p) i m = claimed_ok w p w.stage refl i.base i.stage m
step_ok w (Slotted p end) i m = slotted_ok w p end w.stage i.base i.stage m
step_ok w (Formatted p) i m = formatted_ok w p w.stage refl i.base i.stage m
step_ok w (Wiped p) i m = wiped_ok w p w.stage refl i.base i.stage m
step_ok w (Lists lists) i m = lists_event_ok w lists w.stage i.base i.stage m
step_ok w Told i m = told_ok w w.stage i.base i.stage m
step_ok w Crash i m = crash_ok w i
step_ok w (Lose d) i m = drives_ok w (w.lost ++ d ∷ []) i
step_ok w (Back d) i m = drives_ok w (without_drive w.lost d.0) i

pub all_ok : (w : Core) (es : List Event) → Inv w → MayAll w es → Inv (after_all w es)
all_ok w [] i m = i
all_ok w (e ∷ es) i m = all_ok (happens w e) es (step_ok w e i m.0) m.1

-- from nothing, by any list of events that may happen
pub reached_ok : (set : Bool) (es : List Event) → MayAll (start set) es → Inv (after_all (start set) es)
reached_ok set es m = all_ok (start set) es (start_ok set) m
