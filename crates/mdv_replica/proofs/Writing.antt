-- The moments of a slot's writing and of a formatting.
use Rattle.std.proofs.Common.{◌≡◌, inl, inr, ⊎_elim, ℕ, ◌+◌, ◌<◌, false, Option, List, [], ◌∷◌, length, sym, ◌∙◌, arith}
use Rattle.mdv_replica.specs.Below.{Mark, Tale, covers, range, Settling, IsSettled, Moments, Ends}
use Rattle.mdv_shelf.proofs.Frame.{kept_outside_more, kept_outside_left, kept_outside_right, kept_outside_wider, before_range, behind_range, within_range, settling_one, settled_one, settled_only, fixed_settled, fixed_kept, shows_more}
use Rattle.mdv_shelf.proofs.Moments.{moments_weaker, moments_after, moments_end, ends_both, ends_more}
use Rattle.mdv_replica.specs.declared.forms.Gate.TheVariants.{Closed, Open}
use Rattle.mdv_replica.specs.declared.forms.Master.{Master}
use Rattle.mdv_replica.specs.declared.replica.PlaceAt.{PlaceAt}
use Rattle.mdv_replica.specs.declared.replica.Slot.{Slot}
use Rattle.mdv_replica.specs.declared.replica.Slot.TheVariants.{First, Second}
use Rattle.mdv_replica.specs.Forms.{master_text, gate_text, block_of}
use Rattle.mdv_replica.specs.Replica.{starting, between, ending, gate_at, body_at, slot_area, master_area, head_area, blank_master, formatted_rest, Wiping, IsWiped, Formatting, IsFormatted, SlotWriting, IsSlotWritten}

-- a settled write, and the writing that led to it
record Wrote (drive at : ℕ) (blocks : List (List ℕ)) (t u : Tale) : Type 0 where
  way : Settling drive at blocks t u
  end : IsSettled drive at blocks u

-- from the clauses of a settled write to what it wrote
wrote_ends : (drive at : ℕ) (blocks : List (List ℕ)) (a b : Option Tale) → Moments (Settling drive at blocks) a b → Ends (λ t u. IsSettled drive at blocks u) a b → Ends (Wrote drive at blocks) a b
wrote_ends drive at blocks a b moments ends =
    ends_both (Settling drive at blocks) (λ t u. IsSettled drive at blocks u) (Wrote drive at blocks) a b (λ t u way end. record { way = way; end = end }) (moments_end (Settling drive at blocks) a b moments) ends

-- two stretches of which the second begins where the first ended
abbrev Both : (Tale → Tale → Type 0) → (Tale → Tale → Type 0) → Tale → Tale → Type 0
Both Q R t v = (u : Tale) × Q t u × R u v

both_end : (Q R : Tale → Tale → Type 0) (a b c : Option Tale) → Ends Q a b → Ends R b c → Ends (Both Q R) a c
both_end Q R a b c first second = ends_more Q R (Both Q R) a b c (λ t u v q r. (u, q, r)) first second

-- the gate stands before the body
before_body : (at : PlaceAt) (slot : Slot) → gate_at at slot < body_at at slot
before_body at First = omega arith
before_body at Second = omega arith

module _ (at : PlaceAt) (slot : Slot) (mark : Mark) (bytes : ℕ) (body : List (List ℕ)) where
  abbrev pub gate : ℕ
  gate = gate_at at slot

  abbrev pub closed : List (List ℕ)
  closed = block_of (gate_text Closed) ∷ []

  abbrev pub opened : List (List ℕ)
  opened = block_of (gate_text (Open mark bytes)) ∷ []

  gate_out : covers at.drive.0 (body_at at slot) (length body) at.drive.0 gate ≡ false
  gate_out = before_range at.drive.0 (body_at at slot) (length body) gate (before_body at slot)

  body_out : (k : ℕ) → covers at.drive.0 gate 1 at.drive.0 (body_at at slot + k) ≡ false
  body_out k = let apart = before_body at slot in behind_range at.drive.0 gate 1 (body_at at slot + k) (omega arith)

  slot_closing : (t m : Tale) → Settling at.drive.0 gate closed t m → SlotWriting at slot mark bytes body t m
  slot_closing t m settling = record {
    outside = kept_outside_left (range at.drive.0 gate 1) (range at.drive.0 (body_at at slot) (length body)) t m settling.outside;
    quiet = settling.quiet;
    stretch = starting (λ x left. settling_one at.drive.0 gate (block_of (gate_text Closed)) t m settling x left, settling.outside);
  }

  slot_filling : (t u m : Tale) → Wrote at.drive.0 gate closed t u → Settling at.drive.0 (body_at at slot) body u m → SlotWriting at slot mark bytes body t m
  slot_filling t u m first settling = record {
    outside = kept_outside_more (slot_area at slot (length body)) t u m (slot_closing t u first.way).outside
        (kept_outside_right (range at.drive.0 gate 1) (range at.drive.0 (body_at at slot) (length body)) u m settling.outside);
    quiet = settling.quiet ∙ first.way.quiet;
    stretch = between (λ x left. settled_only at.drive.0 gate (block_of (gate_text Closed)) u first.end x ((settling.outside at.drive.0 gate gate_out).left x left));
  }

  slot_opening : (t u v m : Tale) → Wrote at.drive.0 gate closed t u → Wrote at.drive.0 (body_at at slot) body u v → Settling at.drive.0 gate opened v m → SlotWriting at slot mark bytes body t m
  slot_opening t u v m first second settling = record {
    outside = kept_outside_more (slot_area at slot (length body)) t v m (slot_filling t u v first second.way).outside
        (kept_outside_left (range at.drive.0 gate 1) (range at.drive.0 (body_at at slot) (length body)) v m settling.outside);
    quiet = settling.quiet ∙ second.way.quiet ∙ first.way.quiet;
    stretch = ending (
      λ x left. ⊎_elim (λ old. inl (settled_only at.drive.0 gate (block_of (gate_text Closed)) u first.end x ((second.way.outside at.drive.0 gate gate_out).left x old))) (λ new. inr new)
          (settling_one at.drive.0 gate (block_of (gate_text (Open mark bytes))) v m settling x left),
      fixed_kept at.drive.0 (body_at at slot) body v m (λ k lt. settling.outside at.drive.0 (body_at at slot + k) (body_out k)) (fixed_settled at.drive.0 (body_at at slot) body v second.end),
    );
  }

  slot_written : (v w : Tale) → IsSettled at.drive.0 (body_at at slot) body v → Wrote at.drive.0 gate opened v w → IsSlotWritten at slot mark bytes body w
  slot_written v w second third = record {
    gate_settled = third.end;
    body_settled = record {
      shows = λ k lt. second.shows k lt ∙ sym (third.way.outside at.drive.0 (body_at at slot + k) (body_out k)).last;
      synced = third.end.synced;
    };
  }

  -- from a shelf's tale before to those after each of the three writes
  pub slot_closes : (a b : Option Tale) → Moments (Settling at.drive.0 gate closed) a b → Moments (SlotWriting at slot mark bytes body) a b
  slot_closes a b first = moments_weaker (Settling at.drive.0 gate closed) (SlotWriting at slot mark bytes body) a b slot_closing first

  pub slot_fills : (a b c : Option Tale) → Moments (Settling at.drive.0 gate closed) a b → Ends (λ t u. IsSettled at.drive.0 gate closed u) a b → Moments (Settling at.drive.0 (body_at at slot) body) b c → Moments (SlotWriting at slot mark bytes body) a c
  slot_fills a b c first shut second =
      moments_after (Settling at.drive.0 gate closed) (Wrote at.drive.0 gate closed) (Settling at.drive.0 (body_at at slot) body) (SlotWriting at slot mark bytes body) a b c slot_closing slot_filling
      first (wrote_ends at.drive.0 gate closed a b first shut) second

  pub slot_opens : (a b c d : Option Tale) → Moments (Settling at.drive.0 gate closed) a b → Ends (λ t u. IsSettled at.drive.0 gate closed u) a b
      → Moments (Settling at.drive.0 (body_at at slot) body) b c → Ends (λ t u. IsSettled at.drive.0 (body_at at slot) body u) b c → Moments (Settling at.drive.0 gate opened) c d → Moments (SlotWriting at slot mark bytes body) a d
  slot_opens a b c d first shut second filled third =
      moments_after (SlotWriting at slot mark bytes body) (Both (Wrote at.drive.0 gate closed) (Wrote at.drive.0 (body_at at slot) body)) (Settling at.drive.0 gate opened) (SlotWriting at slot mark bytes body) a c d
      (λ t m so_far. so_far) (λ t v m both settling. slot_opening t both.0 v m both.1 both.2 settling) (slot_fills a b c first shut second)
      (both_end (Wrote at.drive.0 gate closed) (Wrote at.drive.0 (body_at at slot) body) a b c (wrote_ends at.drive.0 gate closed a b first shut) (wrote_ends at.drive.0 (body_at at slot) body b c second filled)) third

  pub slot_ends : (a b c d : Option Tale) → Ends (λ t u. IsSettled at.drive.0 gate closed u) a b → Ends (λ t u. IsSettled at.drive.0 (body_at at slot) body u) b c
      → Moments (Settling at.drive.0 gate opened) c d → Ends (λ t u. IsSettled at.drive.0 gate opened u) c d → Ends (λ t u. IsSlotWritten at slot mark bytes body u) a d
  slot_ends a b c d shut filled third opens =
      ends_more (λ t u. IsSettled at.drive.0 gate closed u) (λ t u. IsSlotWritten at slot mark bytes body u) (λ t u. IsSlotWritten at slot mark bytes body u) a b d (λ t u v one two. two) shut
      (ends_more (λ t u. IsSettled at.drive.0 (body_at at slot) body u) (Wrote at.drive.0 gate opened) (λ t u. IsSlotWritten at slot mark bytes body u) b c d
      (λ t u v one two. slot_written u v one two) filled (wrote_ends at.drive.0 gate opened c d third opens))

-- a master in front of claim and gates
module _ (at : PlaceAt) (master : Master) (claim : ℕ) where
  abbrev pub rest : List (List ℕ)
  rest = formatted_rest claim

  abbrev pub first_block : List (List ℕ)
  first_block = block_of (master_text master) ∷ []

  head_within : (other block : ℕ) → covers at.drive.0 at.first 4 other block ≡ false → covers at.drive.0 at.first 1 other block ≡ false
  head_within other block out = within_range at.drive.0 at.first 1 at.first 4 other block (omega arith) (omega arith) out

  rest_within : (other block : ℕ) → covers at.drive.0 at.first 4 other block ≡ false → covers at.drive.0 (at.first + 1) 3 other block ≡ false
  rest_within other block out = within_range at.drive.0 (at.first + 1) 3 at.first 4 other block (omega arith) (omega arith) out

  master_out : covers at.drive.0 (at.first + 1) 3 at.drive.0 at.first ≡ false
  master_out = before_range at.drive.0 (at.first + 1) 3 at.first (omega arith)

  rest_out : (k : ℕ) → covers at.drive.0 at.first 1 at.drive.0 (at.first + 1 + k) ≡ false
  rest_out k = behind_range at.drive.0 at.first 1 (at.first + 1 + k) (omega arith)

  format_blanking : (t m : Tale) → Wiping at t m → Formatting at master claim t m
  format_blanking t m settling = record {
    outside = kept_outside_wider (master_area at) (head_area at) t m head_within settling.outside;
    quiet = settling.quiet;
    stretch = starting (λ x left. settling_one at.drive.0 at.first (block_of []) t m settling x left, settling.outside);
  }

  format_filling : (t u m : Tale) → Wrote at.drive.0 at.first blank_master t u → Settling at.drive.0 (at.first + 1) rest u m → Formatting at master claim t m
  format_filling t u m first settling = record {
    outside = kept_outside_more (head_area at) t u m (format_blanking t u first.way).outside
        (kept_outside_wider (range at.drive.0 (at.first + 1) 3) (head_area at) u m rest_within settling.outside);
    quiet = settling.quiet ∙ first.way.quiet;
    stretch = between (λ x left. settled_only at.drive.0 at.first (block_of []) u first.end x ((settling.outside at.drive.0 at.first master_out).left x left));
  }

  format_ending : (t u v m : Tale) → Wrote at.drive.0 at.first blank_master t u → Wrote at.drive.0 (at.first + 1) rest u v → Settling at.drive.0 at.first first_block v m → Formatting at master claim t m
  format_ending t u v m first second settling = record {
    outside = kept_outside_more (head_area at) t v m (format_filling t u v first second.way).outside
        (kept_outside_wider (master_area at) (head_area at) v m head_within settling.outside);
    quiet = settling.quiet ∙ second.way.quiet ∙ first.way.quiet;
    stretch = ending (
      λ x left. ⊎_elim (λ old. inl (settled_only at.drive.0 at.first (block_of []) u first.end x ((second.way.outside at.drive.0 at.first master_out).left x old))) (λ new. inr new)
          (settling_one at.drive.0 at.first (block_of (master_text master)) v m settling x left),
      fixed_kept at.drive.0 (at.first + 1) rest v m (λ k lt. settling.outside at.drive.0 (at.first + 1 + k) (rest_out k)) (fixed_settled at.drive.0 (at.first + 1) rest v second.end),
    );
  }

  head_shown : (v w : Tale) → IsSettled at.drive.0 (at.first + 1) rest v → Wrote at.drive.0 at.first first_block v w → IsFormatted at master claim w
  head_shown v w second third = record {
    shows = shows_more w at.drive.0 at.first (block_of (master_text master)) rest (settled_one at.drive.0 at.first (block_of (master_text master)) w third.end)
        (λ k lt. second.shows k lt ∙ sym (third.way.outside at.drive.0 (at.first + 1 + k) (rest_out k)).last);
    synced = third.end.synced;
  }

  -- from a shelf's tale before to those after each of the three writes
  pub format_blanks : (a b : Option Tale) → Moments (Wiping at) a b → Moments (Formatting at master claim) a b
  format_blanks a b first = moments_weaker (Wiping at) (Formatting at master claim) a b format_blanking first

  pub format_fills : (a b c : Option Tale) → Moments (Wiping at) a b → Ends (λ t u. IsWiped at u) a b → Moments (Settling at.drive.0 (at.first + 1) rest) b c → Moments (Formatting at master claim) a c
  format_fills a b c first blanked second =
      moments_after (Wiping at) (Wrote at.drive.0 at.first blank_master) (Settling at.drive.0 (at.first + 1) rest) (Formatting at master claim) a b c format_blanking format_filling
      first (wrote_ends at.drive.0 at.first blank_master a b first blanked) second

  pub format_opens : (a b c d : Option Tale) → Moments (Wiping at) a b → Ends (λ t u. IsWiped at u) a b
      → Moments (Settling at.drive.0 (at.first + 1) rest) b c → Ends (λ t u. IsSettled at.drive.0 (at.first + 1) rest u) b c → Moments (Settling at.drive.0 at.first first_block) c d → Moments (Formatting at master claim) a d
  format_opens a b c d first blanked second filled third =
      moments_after (Formatting at master claim) (Both (Wrote at.drive.0 at.first blank_master) (Wrote at.drive.0 (at.first + 1) rest)) (Settling at.drive.0 at.first first_block) (Formatting at master claim) a c d
      (λ t m so_far. so_far) (λ t v m both settling. format_ending t both.0 v m both.1 both.2 settling) (format_fills a b c first blanked second)
      (both_end (Wrote at.drive.0 at.first blank_master) (Wrote at.drive.0 (at.first + 1) rest) a b c (wrote_ends at.drive.0 at.first blank_master a b first blanked) (wrote_ends at.drive.0 (at.first + 1) rest b c second filled)) third

  pub format_ends : (a b c d : Option Tale) → Ends (λ t u. IsWiped at u) a b → Ends (λ t u. IsSettled at.drive.0 (at.first + 1) rest u) b c
      → Moments (Settling at.drive.0 at.first first_block) c d → Ends (λ t u. IsSettled at.drive.0 at.first first_block u) c d → Ends (λ t u. IsFormatted at master claim u) a d
  format_ends a b c d blanked filled third written =
      ends_more (λ t u. IsWiped at u) (λ t u. IsFormatted at master claim u) (λ t u. IsFormatted at master claim u) a b d (λ t u v one two. two) blanked
      (ends_more (λ t u. IsSettled at.drive.0 (at.first + 1) rest u) (Wrote at.drive.0 at.first first_block) (λ t u. IsFormatted at master claim u) b c d
      (λ t u v one two. head_shown u v one two) filled (wrote_ends at.drive.0 at.first first_block c d third written))
