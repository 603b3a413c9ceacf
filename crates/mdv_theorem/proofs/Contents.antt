-- What lines of a run leave in a block of a volume: what was there, or what one of them wrote; and what a reply to a read tells of it.
use Rattle.std.proofs.Common.{◌≡◌, ◌⊎◌, inl, inr, ℕ, zero, suc, ◌+◌, ◌<◌, Bool, true, false, List, [], ◌∷◌, length, map, slice_index_or, Contains, Some, refl, sym, ◌∙◌, ap, subst, arith}
use Rattle.mdv_base.specs.declared.name.VolId.{VolId}
use Rattle.mdv_base.specs.declared.refusal.Refusal.TheVariants.{IoFault}
use Rattle.mdv_engine_law.specs.Answers.{accepted, refusing}
use Rattle.mdv_engine_law.specs.Commands as came
use Rattle.mdv_engine_law.specs.Commands.{CameTo, ComesTo, Effect}
use Rattle.mdv_shelf.specs.Failing.{Outcomes}
use Rattle.mdv_engine_law.specs.Line.{ArePut, HasBlocks, IsRebooted, Kept, MayBePut, Stays}
use Rattle.mdv_engine_law.specs.Replies.{ok_line, refusal_line, text_of}
use Rattle.mdv_engine_law.specs.declared.answer.Answer.{Answer}
use Rattle.mdv_engine_law.specs.declared.host.Host.{Host}
use Rattle.mdv_dev.proofs.Copies.{one_place, one_reading, reads_there}
use Rattle.mdv_map.specs.Maps.{Map, readings}
use Rattle.mdv_run_law.specs.Run.{IsAnswered, IsSaid, TextWrites}
use Rattle.mdv_run_law.proofs.Extents.{SeesOwn}
use Rattle.mdv_run_law.proofs.Placing.{off_or_there}
use Rattle.mdv_status.specs.Values.{significant, values_reply}
use Rattle.mdv_status.proofs.Apart.{values_are_told}
use Rattle.mdv_config.specs.Slices.{IsSound}
use Rattle.mdv_plan.specs.declared.table.Table.{Table}
use Rattle.mdv_volumes.proofs.Lists.{contains_behind, contains_first}
use Rattle.mdv_words.specs.Line as words
use Rattle.mdv_words.proofs.Lines.{one_line}
use Rattle.mdv_words.specs.Line.{IsLine, Line, blocks_of}
use Rattle.mdv_words.specs.declared.command.Command.TheVariants.{Read, Write}
use Rattle.mdv_words.specs.declared.written.Written.{Written}
use Rattle.mdv_volumes.proofs.Made.{HasFront, front_stays}
use Rattle.mdv_theorem.specs.Exchanges.{Exchange, IsAcknowledged, IsSameBlock, IsTold, MayBeWritten, MayHaveBegun, TellsBlock, Writes}
use Rattle.mdv_theorem.proofs.Steps.{Between, Steps, no_step, one_step, skipped, told_once}
use Rattle.mdv_theorem.proofs.Ends.{TakeVolume}
use Rattle.mdv_theorem.proofs.Kept.{keeps_or_takes}
use Rattle.mdv_theorem.proofs.Tables.{IsCarried, Keeps, WroteThere, granted_done, keeps_idle, open_keeps, text_kept}
use Rattle.mdv_theorem.proofs.Telling.{is_fault, ok_is_none, one_number}
use Rattle.mdv_shelf.specs.Everywhere.{Image}
use Rattle.mdv_shelf.specs.Tale.{Among}
use Rattle.mdv_store.specs.Booting.{boot_area, has_written}
use Rattle.mdv_store.specs.Opened.{Opened}
use Rattle.mdv_shown.specs.Site.{site_area}
use Rattle.mdv_theorem.proofs.Place.{BlockAt, Spot, at_place, block_at, block_longer, same_block}
use Rattle.mdv_theorem.proofs.Sure.{IsSure, sure_table}

-- a write that was told ok, or that a call failed, may have begun
may_have_begun : (one : Exchange) (answer : Answer) → IsTold one (text_of answer) → (answer ≡ accepted) ⊎ (answer ≡ refusing IoFault) → MayHaveBegun one
may_have_begun one answer told (inl ok) refusal refused = absurd (ok_is_none refusal (told_once one ok_line (refusal_line refusal) (subst (λ (a : Answer). IsTold one (text_of a)) ok told) refused))
may_have_begun one answer told (inr fault) refusal refused =
    let same = told_once one (refusal_line IoFault) (refusal_line refusal) (subst (λ (a : Answer). IsTold one (text_of a)) fault told) refused in
    is_fault refusal (sym (one_number IoFault refusal same))

-- what is put is what may be, where each of the blocks lies in one place
may_be_put : (v : Map) (at : ℕ) (blocks : List (List ℕ)) (old new : Image) → ((k : ℕ) → k < length blocks → BlockAt v (at + k)) → ArePut v at blocks old new → MayBePut v at blocks old new
may_be_put v at blocks old new places put = record {
  here = λ k drive block below has. (
      let there = places k below in
      let same = one_place v (at + k) there.drive there.block there.lies drive block has in
      inr ((λ i. new (same.0 i) (same.1 i)) ∙ put.here k (new there.drive there.block) below (reads_there v (at + k) there.drive there.block there.lies new)));
  elsewhere = put.elsewhere;
}

module _ (host : Host) (sound : IsSound host.drives) (sees : SeesOwn host) (volume : VolId) (v : Map) (b : ℕ) (at_it : BlockAt v b) (out : site_area host.site at_it.drive at_it.block ≡ false) where
  -- the volume lies there, and may have more blocks behind
  abbrev Lies : Table → Type 0
  Lies t = HasFront host.drives volume v t

  carried : IsCarried host.drives volume Lies
  carried = front_stays host.drives volume v

  abbrev drive : ℕ
  drive = at_it.drive

  abbrev spot : ℕ
  spot = at_it.block

  abbrev IsKept : Kept → Kept → Type 0
  IsKept kept next = next.content drive spot ≡ kept.content drive spot

  -- the line may have written the block
  record IsWritten (one : Exchange) (next : Kept) : Type 0 where
    new : List ℕ
    may : MayBeWritten volume b new one
    reads : next.content drive spot ≡ new

  abbrev IsLeft : Exchange → Kept → Kept → Type 0
  IsLeft one kept next = IsKept kept next ⊎ IsWritten one next

  -- a write of blocks of the open table, among which this one may be
  put_left : (one : Exchange) (answer : Answer) (from : Between host) (next : Kept) → Keeps host Lies from → IsTold one (text_of answer) → (other : VolId) (at : ℕ) (what : Written) → IsLine one.text (words.Exec (Write other at what)) → (w : Map)
      → HasBlocks host from.kept.memory other at (length (blocks_of what)) w → MayBePut w at (blocks_of what) from.kept.content next.content → (answer ≡ accepted) ⊎ (answer ≡ refusing IoFault) → IsLeft one from.kept next
  put_left one answer from next keeps told other at what spelled w there put came = elim (off_or_there w at (length (blocks_of what)) drive spot) [
    | inl off ↦ inl (put.elsewhere drive spot off)
    | inr (k, below, has) ↦
        let plan = sure_table host from.kept there.o from.sure there.opened in
        let lies = open_keeps host Lies from there.o keeps there.opened in
        let bound = there.within in
        let its = block_longer v lies.0 b lies.2 at_it in
        let same = same_block host.drives sound there.o.table plan volume other lies.0 w b (at + k) drive spot lies.1 there.lies its.within (omega (arith, below, bound)) (at_place lies.0 b its) has in
        let asks = subst (λ (x : VolId). IsLine one.text (words.Exec (Write x at what))) same.0 spelled in
        elim (put.here k drive spot below has) [
          | inl old ↦ inl old
          | inr new ↦ inr (record {
            new = slice_index_or (blocks_of what) k [];
            may = record { writes = record { at = at; what = what; asks = asks; place = k; within = below; numbered = sym same.1; value = refl }; begun = may_have_begun one answer told came };
            reads = new;
          })
        ]
  ]

  -- what a write leaves
  write_left : (calls : Outcomes) (one : Exchange) (answer : Answer) (from : Between host) (next : Kept) → Keeps host Lies from → IsSaid answer → IsTold one (text_of answer) → (other : VolId) (at : ℕ) (what : Written) → IsLine one.text (words.Exec (Write other at what))
      → CameTo calls host from.kept (Write other at what) answer next → IsLeft one from.kept next
  write_left calls one answer from next keeps said told other at what spelled (came.refused quiet r why left) = inl (left.1.content drive spot)
  write_left calls one answer from next keeps said told other at what spelled (came.wanting quiet is wants) = inl (wants.2.content drive spot)
  write_left calls one answer from next keeps said told other at what spelled (came.done free (calm, w, there, ok, memory, put)) =
      let plan = sure_table host from.kept there.o from.sure there.opened in
      let bound = there.within in
      let places : (k : ℕ) → k < length (blocks_of what) → BlockAt w (at + k) = λ k below. block_at host.drives sound there.o.table plan other w (at + k) there.lies (omega (arith, below, bound)) in
      put_left one answer from next keeps told other at what spelled w there (may_be_put w at (blocks_of what) from.kept.content next.content places put) (inl ok)
  write_left calls one answer from next keeps said told other at what spelled (came.faulted free is (failed, unsettled, put)) = put_left one answer from next keeps told other at what spelled failed.map failed.there put (inr is)
  write_left calls one answer from next keeps said told other at what spelled (came.over end free over gives) = absurd (let never : ⊥ = subst IsSaid over said in never)

  -- what a line leaves
  line_left : (calls : Outcomes) (one : Exchange) (answer : Answer) (from mid : Between host) → Keeps host Lies from → IsAnswered calls host from.kept one.text answer mid.kept → IsSaid answer → IsTold one (text_of answer)
      → TextWrites host from.kept.memory one.text from.sure.tale mid.sure.tale → IsLeft one from.kept mid.kept
  line_left calls one answer from mid keeps comes said told writes = elim (text_kept host sees from.kept from.sure one.text from.sure.tale mid.sure.tale drive spot out writes) [
    | inl kept ↦ inl (sym (mid.sure.reads drive spot) ∙ kept.last ∙ from.sure.reads drive spot)
    | inr wrote ↦ by wrote comes
  ] where
    by : (w : WroteThere host from.kept.memory one.text from.sure.tale mid.sure.tale) → IsAnswered calls host from.kept one.text answer mid.kept → IsLeft one from.kept mid.kept
    by w (inl (none, quiet, refused)) = absurd (none (words.Exec (Write w.volume w.at w.what)) w.spelled)
    by w (inr (inl (spelled, is, does))) =
        write_left calls one answer from mid.kept keeps said told w.volume w.at w.what w.spelled (subst (λ (l : Line). ComesTo calls host from.kept l answer mid.kept) (one_line one.text spelled (words.Exec (Write w.volume w.at w.what)) is w.spelled) does)
    by w (inr (inr (quiet, refused))) = inl (refused.1.content drive spot)

  -- what a boot leaves: it writes but replicas
  pub first_left : (calls : Outcomes) (answer : Answer) (kept next : Kept) → IsRebooted calls host kept answer next → next.content drive spot ≡ kept.content drive spot
  first_left calls answer kept next boots = boots.beside drive spot (by (has_written boots.end)) where
    by : (written : Bool) → boot_area host.site written drive spot ≡ false
    by true = out
    by false = refl

  -- one of these lines may have written what is there
  abbrev pub WasWritten : List Exchange → Kept → Type 0
  WasWritten es last = (one : Exchange) × (new : List ℕ) × Contains es one × MayBeWritten volume b new one × (last.content drive spot ≡ new)

  -- or it is what was there
  abbrev pub IsStill : List Exchange → Kept → Kept → Type 0
  IsStill es kept last = (last.content drive spot ≡ kept.content drive spot) ⊎ WasWritten es last

  line_more : (one : Exchange) (rest : List Exchange) (from mid last : Kept) → IsLeft one from mid → IsStill rest mid last → IsStill (one ∷ rest) from last
  line_more one rest from mid last here (inr written) = inr (written.0, written.1, contains_behind one written.0 rest written.2, written.3, written.4)
  line_more one rest from mid last (inl here) (inl kept_on) = inl (kept_on ∙ here)
  line_more one rest from mid last (inr here) (inl kept_on) = inr (one, here.new, contains_first one rest, here.may, kept_on ∙ here.reads)

  -- The block reads as it did, or as one of the lines may have written it, unless one of them may have taken the volume away.
  pub content_steps : (Failed : ℕ → Type 0) (from last : Between host) (es : List Exchange) → Keeps host Lies from → Steps host Failed from es last → TakeVolume volume es ⊎ IsStill es from.kept last.kept
  content_steps Failed from last es keeps (no_step at) = inr (inl refl)
  content_steps Failed from last es keeps (skipped at mid end rest same idled steps) = elim (content_steps Failed mid last es (keeps_idle host volume Lies carried from mid idled keeps) steps) [
    | inl takes ↦ inl takes
    | inr (inl kept_on) ↦ inr (inl (kept_on ∙ same.content drive spot))
    | inr (inr written) ↦ inr (inr written)
  ]
  content_steps Failed from last es keeps (one_step calls at mid end one answer rest unfailed comes said told writes led steps) = elim (keeps_or_takes host volume Lies carried one from mid led keeps) [
    | inl takes ↦ inl (one, contains_first one rest, takes)
    | inr now ↦ elim (content_steps Failed mid last rest now steps) [
      | inl takes ↦ inl (takes.0, contains_behind one takes.0 rest takes.1, takes.2)
      | inr still ↦ inr (line_more one rest from.kept mid.kept last.kept (line_left calls one answer from mid keeps comes said told writes) still)
    ]
  ]

-- lists of blocks with the same values have the same at each place
same_at : (a b : List (List ℕ)) (k : ℕ) → map significant a ≡ map significant b → IsSameBlock (slice_index_or a k []) (slice_index_or b k [])
same_at [] [] k is = refl
same_at [] (y ∷ b) k is = absurd (cc (is))
same_at (x ∷ a) [] k is = absurd (cc (is))
same_at (x ∷ a) (y ∷ b) zero is = cc (is)
same_at (x ∷ a) (y ∷ b) (suc k) is = let rest : map significant a ≡ map significant b = cc (is) in same_at a b k rest

-- a block of a volume of the open table, of which these bytes were told
pub record IsToldOf (host : Host) (volume : VolId) (number : ℕ) (block : List ℕ) (kept next : Kept) : Type 0 where
  pub o : Opened
  pub opened : kept.memory.opened ≡ Some o
  pub spot : Spot host.drives o.table volume number
  pub same : IsSameBlock block (kept.content spot.at.drive spot.at.block)
  pub stays : Stays kept next

-- and one to which they were written
pub record IsWrittenTo (host : Host) (volume : VolId) (number : ℕ) (block : List ℕ) (kept next : Kept) : Type 0 where
  pub o : Opened
  pub opened : kept.memory.opened ≡ Some o
  pub memory : next.memory ≡ kept.memory
  pub spot : Spot host.drives o.table volume number
  pub reads : next.content spot.at.drive spot.at.block ≡ block

module _ (host : Host) (sound : IsSound host.drives) (calls : Outcomes) (kept next : Kept) (sure : IsSure host kept) (one : Exchange) (answer : Answer) (comes : IsAnswered calls host kept one.text answer next) (said : IsSaid answer) (told : IsTold one (text_of answer)) where
  values_told : (volume : VolId) (number : ℕ) (block : List ℕ) (tells : TellsBlock volume number block one) → Effect calls host kept (Read volume tells.at (length tells.blocks)) answer next → IsToldOf host volume number block kept next
  values_told volume number block tells (calm, v, there, blocks, many, seen, values, stays) =
      let spelled = told_once one (values_reply tells.at tells.blocks) (values_reply tells.at blocks) tells.told (subst (λ (a : Answer). IsTold one (text_of a)) values told) in
      let alike = same_at tells.blocks blocks tells.place (values_are_told.significant tells.at tells.blocks blocks spelled) in
      let less = tells.within in
      let bound = there.within in
      let number_is = tells.numbered in
      let plan = sure_table host kept there.o sure there.opened in
      let place = block_at host.drives sound there.o.table plan volume v number there.lies (omega (arith, number_is, bound, less)) in
      let among = seen.each tells.place (omega (arith, less, many)) in
      let reads = one_reading v number place.drive place.block place.lies kept.content (slice_index_or blocks tells.place []) (subst (λ (n : ℕ). Among (readings v kept.content n) (slice_index_or blocks tells.place [])) (sym number_is) among) in
      record { o = there.o; opened = there.opened; spot = record { map = v; plan = plan; lies = there.lies; at = place }; same = ap significant tells.value ∙ alike ∙ ap significant reads; stays = stays }

  -- what is told of a block is what the open table has in its place
  pub told_block : (volume : VolId) (number : ℕ) (block : List ℕ) → TellsBlock volume number block one → IsToldOf host volume number block kept next
  told_block volume number block tells =
      values_told volume number block tells (granted_done host calls kept next one answer comes said told (Read volume tells.at (length tells.blocks)) tells.asks (tells.at, tells.blocks, tells.told)).1

  block_written : (volume : VolId) (number : ℕ) (block : List ℕ) (writes : Writes volume number block one) → Effect calls host kept (Write volume writes.at writes.what) answer next → IsWrittenTo host volume number block kept next
  block_written volume number block writes (calm, v, there, ok, memory, put) =
      let bound = there.within in
      let below = writes.within in
      let numbered = writes.numbered in
      let plan = sure_table host kept there.o sure there.opened in
      let place = block_at host.drives sound there.o.table plan volume v number there.lies (omega (arith, bound, below, numbered)) in
      let reading = reads_there v number place.drive place.block place.lies next.content in
      record {
        o = there.o;
        opened = there.opened;
        memory = memory;
        spot = record { map = v; plan = plan; lies = there.lies; at = place };
        reads = put.here writes.place (next.content place.drive place.block) below (subst (λ (n : ℕ). Among (readings v next.content n) (next.content place.drive place.block)) numbered reading) ∙ sym writes.value;
      }

  -- and a write that was acknowledged put it there
  pub acked_block : (volume : VolId) (number : ℕ) (block : List ℕ) → IsAcknowledged volume number block one → IsWrittenTo host volume number block kept next
  acked_block volume number block acked =
      let its = acked.writes in
      block_written volume number block its (granted_done host calls kept next one answer comes said told (Write volume its.at its.what) its.asks acked.told).1
