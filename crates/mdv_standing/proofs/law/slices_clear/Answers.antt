use Rattle.std.proofs.Common.{arith}
use Rattle.mdv_shown.specs.Laws.{Reads}
use Rattle.mdv_standing.proofs.Blanking.{blank_beside, blank_formatting, blank_more, blank_wiping, clear_stands, clears_first, clears_later, first_beside, first_taken, later_taken, no_first_now, no_first_still}
use Rattle.mdv_standing.proofs.Within.{format_within}
use Rattle.mdv_standing.proofs.law.slices_clear.Goals as goal

pub returns : goal.returns
returns c = record {
  clears = record {
    first = λ read g all key identity lines t m line blocks count number before sound among f located clear. clears_first read g all key identity lines t m clear sound line blocks count number before among f located;
    cleared = λ site t m line blocks count leaves image is. (let from = leaves image is in no_first_now site line blocks count from.0 image from.2);
    later = λ read g all key identity lines t m line blocks count k sound has within none clear. clears_later read g all key identity lines t m clear sound line blocks count k has within none;
    still = λ site t m line at none leaves image is. (let from = leaves image is in no_first_still site line at from.0 image from.2 (none from.0 from.1));
    stands = λ read g all d lines t has empty lives clear. clear_stands read g all d lines t has empty lives clear;
  };
  blanks = record {
    wiping = λ t m line blocks from count at blank leaves image is. (let was = leaves image is in blank_wiping line blocks from count was.0 image at was.2 (blank was.0 was.1));
    wiped = λ t m line blocks count k blank leaves image is. (let was = leaves image is in blank_more line blocks count k was.0 image was.2 (blank was.0 was.1));
    formatting = λ t m line blocks from count k number master least front blank leaves image is. (let was = leaves image is in blank_formatting line blocks from count was.0 image k number master least front was.2 (blank was.0 was.1));
    beside = λ t m line other blocks from count its many k number master apart least long within blank leaves image is.
        (let was = leaves image is in blank_beside other line apart was.0 image (format_within other k its many was.0 image within long master number was.2) blocks from count least (blank was.0 was.1));
    first_beside = λ site t m line other before its many k number master ok has apart long within known leaves image is.
        (let was = leaves image is in first_beside other line apart was.0 image (format_within other k its many was.0 image within long master number was.2) site ok has before (known was.0 was.1));
    formats = λ site identity t line blocks count k number f blank image is. record {
      site_is = f.site_is;
      one_of = f.one_of;
      within = f.within;
      numbered = f.numbered;
      form = f.form;
      lies = f.lies;
      small = f.small;
      behind = λ j up lt fits. blank image is j (omega (arith, up)) lt fits;
    };
    first_taken = λ read g all key identity t m other line blocks count number before sound f located taken leaves image is d rest.
        (let was = leaves image is in first_taken (Reads read) g sound key identity line was.0 image blocks count number before (f was.0 was.1) (located was.0 was.1) was.2 other d rest.1 (taken was.0 was.1 d rest));
    later_taken = λ read g all key identity t m other line k number first sound some f has taken leaves image is d rest.
        (let was = leaves image is in later_taken (Reads read) g sound key identity line was.0 image k number first some (f was.0 was.1) (has was.0 was.1) was.2 other d rest.1 (taken was.0 was.1 d rest));
  };
}
