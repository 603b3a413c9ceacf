use Rattle.std.proofs.Common.{◌≡◌, ◌∙◌, ◌+◌, ◌^◌, ℕ, List, length, slice_index_or, refl, ap, arith}
use Rattle.std.proofs.lemmas.List.{length-map}
use Rattle.std.proofs.lemmas.Option.{slice_get-get_or}
use Rattle.mdv_store.specs.Below.{Identity, Place, record_bytes}
use Rattle.mdv_store.specs.Boot.{seat_for, seats_of}
use Rattle.mdv_store.specs.Settled.{first_room}
use Rattle.mdv_store.specs.Text.{blocks_for}
use Rattle.mdv_store.proofs.Seating.{greatest_less, max_is}
use Rattle.mdv_store.proofs.booting.in_hand.Goals as goal

pub overflow_add-result : goal.overflow_add-result
overflow_add-result c =
    let less = greatest_less (slice_index_or c.args.replicas.now c.args.newest.now.replica c.index-replicas-newest.result).head.master.identity c.args.replicas.now (2 ^ 63) (omega arith) c.requires.numbered in
    omega (arith, less, c.greatest_number.ensures)

pub returns : goal.returns
returns c =
    let text : c.blocks_for-text.result ≡ blocks_for (record_bytes c.args.newest.now.table) = c.blocks_for-text.ensures ∙ ap blocks_for c.text_bytes.ensures in
    let replica = c.index-replicas-newest.result in
    let rs = c.args.replicas.now in
    let identity : Identity = (slice_index_or rs c.args.newest.now.replica replica).head.master.identity in
    let seats = c.in_ok-seats_of.ensures in
    let next = c.in_ok-seats_of-2.ensures in
    record {
      replica = slice_index_or c.args.replicas.now c.args.newest.now.replica replica;
      one_of = slice_get-get_or c.args.replicas.now c.args.newest.now.replica replica c.requires.within;
      identity_is = refl;
      number_is = ap (λ (n : ℕ). n + 1) c.greatest_number.ensures;
      next_are = next ∙ ap (λ (n : ℕ). seats_of rs identity n c.again_of-again.result.now) text ∙ ap (λ (ps : List Place). seats_of rs identity (blocks_for (record_bytes c.args.newest.now.table)) ps) c.again_of-again.ensures.value;
      next_few = omega (arith, ap length next, length-map c.again_of-again.result.now (seat_for rs identity c.blocks_for-text.result), c.again_of-again.ensures.few);
      seats_are = seats ∙ ap (λ (n : ℕ). seats_of rs identity n c.as_slice.result.now) text ∙ ap (λ (ps : List Place). seats_of rs identity (blocks_for (record_bytes c.args.newest.now.table)) ps) (c.as_slice.ensures.value ∙ c.each_of-places.ensures.value);
      few = omega (arith, ap length seats, length-map c.as_slice.result.now (seat_for rs identity c.blocks_for-text.result), c.as_slice.ensures.few);
      room_is = omega (arith, c.in_ok-room_for.field-0.ok.0, c.in_ok-room_for.ensures, c.max-most.ensures, max_is c.max.result c.blocks_for-text.result, c.max.ensures, max_is c.least_room.result c.first_room.result, text, c.least_room.ensures.value, c.first_room.ensures ∙ ap first_room c.last_of.ensures.value);
    }
