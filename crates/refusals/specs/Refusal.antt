-- The refusals by number (paper 01, Numbers given back; from 17 on paper 02): one list, the same as in src/lib.rt and include/lumbraquay.h.
use Rattle.std.specs.Prelude.{ℕ}
use Rattle.refusals.specs.declared.Refusal.{Refusal}
use Rattle.refusals.specs.declared.Refusal.TheVariants.{PageArea, LogTooLong, LogHeader, EntryDamaged, EntryType, EntryShape, LsnOrder, TransactionOrder, Clash, NoRecord, PageMagicOrType, PageLsn, NoDataPage, PageOverfull, NoSuchPage, MapShort, PageId, PageChecksum, PageSlots, DoublewriteHeader, DoublewriteChecksum, DoublewriteMark, DoublewritePages, DoublewriteShort, SummaryArea, SummaryEndsEarly, SummarySpelling, SummaryEdition, SummaryRange, SummaryOrder, SummaryLeftOver, TableRowEndsEarly, TableRowForm, TableRowLayout, TableRowNoRoom, TableRowNewer, PageAreasDiffer}

-- page bytes no multiple of a page's, or too many pages
abbrev pub page_area : ℕ
page_area = 1

-- log too long
abbrev pub log_too_long : ℕ
log_too_long = 2

-- log header short or wrong
abbrev pub log_header : ℕ
log_header = 3

-- damaged entry
abbrev pub entry_damaged : ℕ
entry_damaged = 4

-- type not 1 to 5, 7, 10
abbrev pub entry_type : ℕ
entry_type = 5

-- wrong shape for its type
abbrev pub entry_shape : ℕ
entry_shape = 6

-- LSN not above the last
abbrev pub lsn_order : ℕ
lsn_order = 7

-- order rule on transactions
abbrev pub transaction_order : ℕ
transaction_order = 8

-- change to a slot that another unended transaction has changed
abbrev pub clash : ℕ
clash = 9

-- Begin with no record left
abbrev pub no_record : ℕ
no_record = 10

-- wrong magic or type of a page
abbrev pub page_magic_or_type : ℕ
page_magic_or_type = 11

-- page LSN above both floor and last LSN
abbrev pub page_lsn : ℕ
page_lsn = 12

-- change to a page beyond the lent ones or not of type 1
abbrev pub no_data_page : ℕ
no_data_page = 13

-- slots and tuples do not fit the page
abbrev pub page_overfull : ℕ
page_overfull = 14

-- row asked for on no lent page
abbrev pub no_such_page : ℕ
no_such_page = 15

-- free map shorter than needed
abbrev pub map_short : ℕ
map_short = 16

-- wrong page id
abbrev pub page_id : ℕ
page_id = 17

-- wrong checksum of a page's body
abbrev pub page_checksum : ℕ
page_checksum = 18

-- broken slot rule of a Data page
abbrev pub page_slots : ℕ
page_slots = 19

-- wrong header or size of a double-write file
abbrev pub doublewrite_header : ℕ
doublewrite_header = 22

-- wrong checksum of a double-write file
abbrev pub doublewrite_checksum : ℕ
doublewrite_checksum = 23

-- wrong mark at the end of a double-write file
abbrev pub doublewrite_mark : ℕ
doublewrite_mark = 24

-- page of a double-write file not lent or named twice; list of pages that does not strictly rise or names one not lent
abbrev pub doublewrite_pages : ℕ
doublewrite_pages = 25

-- area too short for the double-write file
abbrev pub doublewrite_short : ℕ
doublewrite_short = 26

-- area too short for the summary
abbrev pub summary_area : ℕ
summary_area = 27

-- summary ends before its numbers do
abbrev pub summary_ends_early : ℕ
summary_ends_early = 28

-- number spelled in more groups than the fewest, or over 64 bits
abbrev pub summary_spelling : ℕ
summary_spelling = 29

-- another edition of the summary
abbrev pub summary_edition : ℕ
summary_edition = 30

-- page, slot or length of a row out of range
abbrev pub summary_range : ℕ
summary_range = 31

-- rows that do not strictly rise
abbrev pub summary_order : ℕ
summary_order = 32

-- bytes behind the summary's last row
abbrev pub summary_left_over : ℕ
summary_left_over = 33

-- catalog payload that ends early
abbrev pub table_row_ends_early : ℕ
table_row_ends_early = 34

-- 2 to 8 or more than 9 bytes after the names of a catalog payload
abbrev pub table_row_form : ℕ
table_row_form = 35

-- layout byte other than 0 and 1
abbrev pub table_row_layout : ℕ
table_row_layout = 36

-- name over 255 bytes, or an area too short for a catalog payload
abbrev pub table_row_no_room : ℕ
table_row_no_room = 37

-- newest form of a catalog payload, for an older reader
abbrev pub table_row_newer : ℕ
table_row_newer = 38

-- page areas before and after a repair that differ in length
abbrev pub page_areas_differ : ℕ
page_areas_differ = 39

-- the number of a refusal
abbrev pub number_of : Refusal → ℕ
number_of PageArea = page_area
number_of LogTooLong = log_too_long
number_of LogHeader = log_header
number_of EntryDamaged = entry_damaged
number_of EntryType = entry_type
number_of EntryShape = entry_shape
number_of LsnOrder = lsn_order
number_of TransactionOrder = transaction_order
number_of Clash = clash
number_of NoRecord = no_record
number_of PageMagicOrType = page_magic_or_type
number_of PageLsn = page_lsn
number_of NoDataPage = no_data_page
number_of PageOverfull = page_overfull
number_of NoSuchPage = no_such_page
number_of MapShort = map_short
number_of PageId = page_id
number_of PageChecksum = page_checksum
number_of PageSlots = page_slots
number_of DoublewriteHeader = doublewrite_header
number_of DoublewriteChecksum = doublewrite_checksum
number_of DoublewriteMark = doublewrite_mark
number_of DoublewritePages = doublewrite_pages
number_of DoublewriteShort = doublewrite_short
number_of SummaryArea = summary_area
number_of SummaryEndsEarly = summary_ends_early
number_of SummarySpelling = summary_spelling
number_of SummaryEdition = summary_edition
number_of SummaryRange = summary_range
number_of SummaryOrder = summary_order
number_of SummaryLeftOver = summary_left_over
number_of TableRowEndsEarly = table_row_ends_early
number_of TableRowForm = table_row_form
number_of TableRowLayout = table_row_layout
number_of TableRowNoRoom = table_row_no_room
number_of TableRowNewer = table_row_newer
number_of PageAreasDiffer = page_areas_differ
