use Rattle.mdv_shown.specs.Laws.{Reads}
use Rattle.mdv_shown.proofs.Slots.{reads_one}
use Rattle.mdv_standing.proofs.Forming.{all_first, all_first_done, all_form, all_formed, all_later, all_later_done}
use Rattle.mdv_standing.proofs.Stores.{all_answered, all_begin, all_change, all_claimed, all_claiming, all_read, all_slotted, all_slotting}
use Rattle.mdv_standing.proofs.law.stores_turn.Goals as goal

pub returns : goal.returns
returns c = record {
  boots = record {
    reads = λ read site identity log t seen s slot mark table r. all_read (Reads read) site identity log t (reads_one read) seen s slot mark table r;
    claiming = λ read site identity log t m line k first head mark table number ok. all_claiming (Reads read) site identity log t line k first head mark table m number ok;
    claimed = λ read site identity log t m line k first head mark table number ok. all_claimed (Reads read) site identity log t line k first head mark table m number ok;
    begins = λ read g site identity log t line k first head mark table number ok. all_begin (Reads read) site identity log t line k first head mark table g number ok;
  };
  writes = record {
    slotting = λ read site identity log t m line k first head slot mark table bytes body by_majority took. all_slotting (Reads read) site identity log t line k first head mark table m slot bytes body by_majority took;
    slotted = λ read site identity log t m line k first head slot mark table bytes body by_majority took. all_slotted (Reads read) site identity log t line k first head mark table m slot bytes body by_majority took;
    answered = λ read site identity log t mark table by_majority took. all_answered (Reads read) site identity log t mark table by_majority took;
    changes = λ read g site identity log t line k first head mark table next asked took. all_change (Reads read) site identity log t line k first head mark table g next asked took;
  };
  creations = record {
    begins = λ read site identity t lists. all_form (Reads read) site identity t lists;
    first_formatting = λ read site identity log t m line blocks count before lists done place located forming. all_first (Reads read) site identity log t m line lists done forming blocks count before place located;
    first_formatted = λ read site identity log t m line blocks count before lists done place located forming. all_first_done (Reads read) site identity log t m line lists done forming blocks count before place located;
    later_formatting = λ read site identity log t m line k first lists done place behind forming. all_later (Reads read) site identity log t m line lists done forming k first place behind;
    later_formatted = λ read site identity log t m line k first lists done place behind forming. all_later_done (Reads read) site identity log t m line lists done forming k first place behind;
    writes = λ read g site identity log t p table done. all_formed (Reads read) site identity g log t p table done;
  };
}
