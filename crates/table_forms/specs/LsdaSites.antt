-- The call-site table (Itanium C++ ABI, "Exception Handling Tables": start, length, landing pad, action).
use Rattle.std.specs.Prelude.{ℕ, zero, suc, ◌+◌, ◌==◌, ◌||◌, nat_lt, nat_le, Bool, true, false, List, [], ◌∷◌, ◌++◌, length, take, Result, Ok, Err, if◌then◌else◌}
use Rattle.eh_bytes.specs.declared.frames.Region64.{Region64}
use Rattle.eh_bytes.specs.Memory.{Part, Memory, is_code}
use Rattle.eh_bytes.specs.Field.{at}
use Rattle.eh_bytes.specs.Leb128.{uleb}
use Rattle.eh_bytes.specs.Encoded.{encoded}
use Rattle.table_forms.specs.declared.found.Site.{Site}
use Rattle.table_forms.specs.declared.reason.Reason.TheVariants.{SiteOrder, SiteOutside, PadOutside}
use Rattle.table_forms.specs.Fault.{Fault, ◌>>=◌, unless, with_reason, table_reason}
use Rattle.table_forms.specs.LsdaHead.{Head}

-- the numbers of a record, and where it stands
pub record SiteRecord : Type 0 where
  pub at : ℕ
  pub start : ℕ
  pub length : ℕ
  pub pad : ℕ
  pub action : ℕ

-- a start, a length or a pad; their encodings apply in no way, so that no address counts
abbrev pub number_at : List ℕ → ℕ → ℕ → ℕ → Result (ℕ × ℕ) Fault
number_at bytes file_at encoding p = do
  n ← with_reason table_reason (file_at + p) (at (encoded encoding (0 + p)) bytes p)
  Ok (n.0.value, n.1)

-- the record at a place of bytes that end with the call-site table, and with the part
unfoldable pub record_at : List ℕ → ℕ → Head → ℕ → Result (SiteRecord × ℕ) Fault
record_at bytes file_at h p = do
  start ← number_at bytes file_at h.site_encoding p
  len ← number_at bytes file_at h.site_encoding start.1
  pad ← number_at bytes file_at h.site_encoding len.1
  action ← with_reason table_reason (file_at + pad.1) (at uleb bytes pad.1)
  Ok (record { at = p; start = start.0; length = len.0; pad = pad.0; action = action.0 }, action.1)

-- the records up to the table's end or the first that can't be read, and its refusal
pub record SiteRecords : Type 0 where
  pub records : List SiteRecord
  pub cut : List Fault

abbrev pub and_more : SiteRecord → SiteRecords → SiteRecords
and_more r rest = record { records = r ∷ rest.records; cut = rest.cut }

abbrev pub records_from : Bool → Result (SiteRecord × ℕ) Fault → (ℕ → SiteRecords) → SiteRecords
records_from false read more = record { records = []; cut = [] }
records_from true (Err f) more = record { records = []; cut = f ∷ [] }
records_from true (Ok (r, next)) more = and_more r (more next)

-- at most so many; each takes a byte at least
unfoldable pub records_within : ℕ → List ℕ → ℕ → Head → ℕ → SiteRecords
records_within zero bytes file_at h p = record { records = []; cut = [] }
records_within (suc n) bytes file_at h p =
    records_from (nat_lt p h.actions_at) (record_at bytes file_at h p) (records_within n bytes file_at h)

abbrev pub site_records : Part → Head → SiteRecords
site_records part h =
    records_within (1 + length part.bytes) (take h.actions_at part.bytes) part.file_at h h.sites_at

-- starts count from the region's start, pads from LPStart; numbers are added as whole numbers
abbrev pub site_of : Head → Region64 → SiteRecord → Site
site_of h region r = record {
  start = region.start + r.start;
  end = region.start + r.start + r.length;
  pad = (if r.pad == 0 then 0 else h.pads_from + r.pad);
  action = r.action;
}

-- it begins before the end of the one before, it ends behind its region, or its pad is no code
abbrev pub site_faults : Memory → ℕ → Region64 → ℕ → Site → List Fault
site_faults memory place region before s =
    unless (nat_le before s.start) SiteOrder place ++ unless (nat_le s.end (region.start + region.length)) SiteOutside place ++
    unless (s.pad == 0 || is_code memory s.pad) PadOutside place
