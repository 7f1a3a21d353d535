-- What `link` puts stands for its lists.
use Rattle.std.proofs.Common.{◌≡◌, ℕ, ◌+◌, List, [], ◌∷◌, ◌++◌, length, sym, subst, arith}
use Rattle.eh_bytes.specs.Listed.{ListedFrame, ListedUnit}
use Rattle.machine_forms.specs.Emitted.{emitted_stubs}
use Rattle.image_forms.specs.Placed.{code_at, unit_at, names_at, PlacedFunction, placed_from}
use Rattle.image_forms.specs.Tables.{placed_table, tables_bytes}
use Rattle.image_forms.specs.Linked.{tables_at, unit_frames, frames_at, header_at}
use Rattle.image_forms.specs.Linkable.{IsLinkable}
use Rattle.image_link.specs.Laws.{TablesCanBeWritten}
use Rattle.image_link.specs.Standing.{TablesStand, FramesWritten, HeaderWritten, TablesWritten, ListsStand}
use Rattle.image_link.proofs.Joined.{behind}
use Rattle.image_link.proofs.Handed.{writers_are_met}
use Rattle.image_link.proofs.Whole.{Puts, put_whole, begins}

written_first : (end a : ℕ) (fs gs : List PlacedFunction) → TablesCanBeWritten end a (fs ++ gs) → TablesCanBeWritten end a fs
written_first end a [] gs can = tt
written_first end a (f ∷ fs) gs (first, rest) = (first, written_first end (a + length (placed_table end a f)) fs gs rest)

written_second : (end a : ℕ) (fs gs : List PlacedFunction) → TablesCanBeWritten end a (fs ++ gs) → TablesCanBeWritten end (a + length (tables_bytes end a fs)) gs
written_second end a [] gs can = let same : a ≡ a + 0 = omega arith in subst (λ n. TablesCanBeWritten end n gs) same can
written_second end a (f ∷ fs) gs (first, rest) =
    subst (λ n. TablesCanBeWritten end n gs) (behind end a f fs) (written_second end (a + length (placed_table end a f)) fs gs rest)

both_stand : (end a : ℕ) (fs gs : List PlacedFunction) → TablesStand end a fs → TablesStand end (a + length (tables_bytes end a fs)) gs → TablesStand end a (fs ++ gs)
both_stand end a [] gs one two = let same : a + 0 ≡ a = omega arith in subst (λ n. TablesStand end n gs) same two
both_stand end a (f ∷ fs) gs (first, rest) two =
    (first, both_stand end (a + length (placed_table end a f)) fs gs rest (subst (λ n. TablesStand end n gs) (sym (behind end a f fs)) two))

pub lists_stand : (u : ListedUnit) (named filled_up first second : List ℕ) (before after : List ListedFrame) (header : ℕ) →
    Puts u named filled_up first second before after → header ≡ header_at u →
    TablesWritten (code_at u) (names_at u + length filled_up) (placed_from (code_at u) emitted_stubs.functions) →
    TablesWritten (code_at u) (names_at u + length first) (placed_from (unit_at u) u.functions) →
    FramesWritten after (names_at u + length second) → HeaderWritten after (names_at u + length second) header →
    IsLinkable u → ListsStand u
lists_stand u named filled_up first second before after header puts place stubs_stand own_stand frames_stand header_stands can =
    let end = code_at u in
    let stubs = placed_from (code_at u) emitted_stubs.functions in
    let own = placed_from (unit_at u) u.functions in
    let put = put_whole u named filled_up first second before after puts in
    let from = begins u named filled_up first second before after puts in
    let one : TablesWritten end (tables_at u) stubs = subst (λ n. TablesWritten end n stubs) from.start stubs_stand in
    let two : TablesWritten end (tables_at u + length (tables_bytes end (tables_at u) stubs)) own = subst (λ n. TablesWritten end n own) from.next own_stand in
    let tables = writers_are_met.tables u can in
    let frames : FramesWritten (unit_frames u) (frames_at u) = subst (λ fs. FramesWritten fs (frames_at u)) put.frames (subst (λ n. FramesWritten after n) put.end frames_stand) in
    let heads : HeaderWritten (unit_frames u) (frames_at u) (header_at u) = subst (λ fs. HeaderWritten fs (frames_at u) (header_at u)) put.frames
    (subst (λ h. HeaderWritten after (frames_at u) h) place (subst (λ n. HeaderWritten after n header) put.end header_stands)) in
    record {
      tables = both_stand end (tables_at u) stubs own (one (written_first end (tables_at u) stubs own tables)) (two (written_second end (tables_at u) stubs own tables));
      frames = frames (writers_are_met.frames u can);
      header = heads (writers_are_met.header u can);
    }
