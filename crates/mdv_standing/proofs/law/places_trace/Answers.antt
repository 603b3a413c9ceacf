use Rattle.mdv_shown.specs.Laws.{Reads}
use Rattle.mdv_shown.proofs.Slots.{reads_one}
use Rattle.mdv_standing.specs.Worlds.{IsReadyWith}
use Rattle.mdv_standing.proofs.PlacesTracing.{none_boots, traced_clearing_first, traced_ended, traced_ending, traced_ends, traced_first_added, traced_first_adding, traced_gone, traced_later_added, traced_later_adding, traced_placing, traced_resting, traced_wiped, traced_wiping}
use Rattle.mdv_standing.proofs.law.places_trace.Goals as goal

pub returns : goal.returns
returns c = record {
  notes = record {
    placing = λ read site identity log t places took. traced_placing (Reads read) site identity log t (IsReadyWith took) places;
    clearing = λ read site identity log t took. traced_ends (Reads read) site identity log t (IsReadyWith took);
    gone = λ read site identity log t firm ends. traced_gone (Reads read) site identity log t firm;
  };
  unlisted = record {
    clearing = λ read site identity log t m v took line blocks count before a looks within bare. traced_clearing_first read site identity log t m took line blocks count looks v before a within bare;
    resting = λ read site identity log t m took line blocks count k ok looks within. traced_resting read site identity log t m took line blocks count looks k ok within;
    wiping = λ read site identity log t m v took line k first a u. traced_wiping (Reads read) site identity log t m v took a line k first u;
    wiped = λ read site identity log t m v took line k first a u. traced_wiped (Reads read) site identity log t m v took a line k first u;
  };
  adding = record {
    first_formatting = λ read site identity log t m v took line blocks count olds news before a to located. traced_first_adding (Reads read) site identity log t m v took a line blocks count olds news before to located;
    first_formatted = λ read site identity log t m v took line blocks count olds news before a to located. traced_first_added (Reads read) site identity log t m v took a line blocks count olds news before to located;
    later_formatting = λ read site identity log t m v took line k first olds news a to behind. traced_later_adding (Reads read) site identity log t m v took a line k first olds news to behind;
    later_formatted = λ read site identity log t m v took line k first olds news a to behind. traced_later_added (Reads read) site identity log t m v took a line k first olds news to behind;
  };
  ending = record {
    wiping = λ read site identity log t m v took line first a to. traced_ending (Reads read) site identity log t m v took a line first to;
    wiped = λ read site identity log t m v took line first a to. traced_ended (Reads read) site identity log t m v took a line first to;
    none = λ read g site identity log t seen s slot mark table. none_boots (Reads read) site identity log t g (reads_one read) seen s slot mark table;
  };
}
