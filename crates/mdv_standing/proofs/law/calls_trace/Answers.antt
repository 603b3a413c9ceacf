use Rattle.mdv_shown.specs.Laws.{Reads}
use Rattle.mdv_standing.specs.Below.{MayWipe}
use Rattle.mdv_standing.proofs.Creating.{may_write_first}
use Rattle.mdv_standing.proofs.Stretches.{may_begin, may_change, none_started, traced_answer, traced_begin, traced_change, traced_claimed, traced_claiming, traced_clearing, traced_creation, traced_first, traced_first_done, traced_first_write, traced_later, traced_later_done, traced_look, traced_slotted, traced_slotting}
use Rattle.mdv_standing.proofs.law.calls_trace.Goals as goal

pub returns : goal.returns
returns c = record {
  boots = record {
    looks = λ read site identity log t seen s slot mark table v. traced_look (Reads read) site identity log t seen s slot mark table v;
    claiming = λ read site identity log t m line k first head mark table v number ok at small a. traced_claiming (Reads read) site identity log t line k first head mark table v a number ok at m small;
    claimed = λ read site identity log t m line k first head mark table v number ok at small a. traced_claimed (Reads read) site identity log t line k first head mark table v a number ok at m small;
    may = λ read g site identity log t line k first head mark table v number ok at here enough a. may_begin (Reads read) site identity log t line k first head mark table v a number ok at here enough g;
    begins = λ read site identity log t line k first head mark table v number ok at here enough a. traced_begin (Reads read) site identity log t line k first head mark table v a number ok at here enough;
  };
  writes = record {
    slotting = λ read site identity log t m line k first head slot mark table bytes body by_majority took at is_body above spare n. traced_slotting (Reads read) site identity log t line k first head mark table bytes body by_majority took at is_body above n m slot spare;
    slotted = λ read site identity log t m line k first head slot mark table bytes body by_majority took at is_body above n. traced_slotted (Reads read) site identity log t line k first head mark table bytes body by_majority took at is_body above n m slot;
    answered = λ read site identity log t mark table by_majority took. traced_answer (Reads read) site identity log t mark table by_majority took;
    may = λ read g site identity log t line k first head mark table next n asked took at made lists change small. may_change (Reads read) site identity log t line k first head mark table next asked took at n lists small g made change;
    changes = λ read site identity log t line k first head mark table next n asked took at lists small. traced_change (Reads read) site identity log t line k first head mark table next asked took at n lists small;
  };
  creations = record {
    none = λ read site identity log t none. none_started (Reads read) site identity log t none;
    clearing = λ read site identity log t m at. traced_clearing (Reads read) site identity log t (MayWipe at) m;
    begins = λ read site identity log t lists none. traced_creation (Reads read) site identity log t none lists;
    first_formatting = λ read site identity log t m line blocks count before lists done empty place located. traced_first (Reads read) site identity log t m line lists done empty blocks count before place located;
    first_formatted = λ read site identity log t m line blocks count before lists done empty place located. traced_first_done (Reads read) site identity log t m line lists done empty blocks count before place located;
    later_formatting = λ read site identity log t m line k first lists done empty place behind. traced_later (Reads read) site identity log t m line lists done empty k first place behind;
    later_formatted = λ read site identity log t m line k first lists done empty place behind. traced_later_done (Reads read) site identity log t m line lists done empty k first place behind;
    may = λ g identity log table. may_write_first g identity log table;
    writes = λ read site identity log t p table done. traced_first_write (Reads read) site identity log t p table done;
  };
}
