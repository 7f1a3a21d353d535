-- The laws of the runtime's own functions, computed of their code and tables.
use Rattle.std.proofs.Common.{◌≡◌, ◌*◌, ◌+◌, pos, negsuc, [], ◌∷◌, length, Some, None, refl, sym, subst, arith, rules}
use Rattle.std.specs.List.{AllByRecursion}
use Rattle.eh_bytes.specs.declared.frames.FrameChange.TheVariants.{Cfa, Saved, Undefined}
use Rattle.eh_bytes.specs.Listed.{ListedFunction}
use Rattle.eh_bytes.specs.Spelling.{uleb_spelling, uleb_spelling_within, sleb_spelling, sleb_spelling_within}
use Rattle.eh_write.specs.Written.{base_offset, table_bytes}
use Rattle.eh_write.specs.WrittenFrames.{fde_body, fde_bytes}
use Rattle.linear_forms.specs.Stub.{terminating, end_catch, call_unexpected}
use Rattle.machine_forms.specs.Routine.{routine_words}
use Rattle.machine_forms.specs.StubCode.{start_name, stub_name, stub_routine}
use Rattle.machine_forms.specs.Emitted.{emitted_stubs}
use Rattle.rv64_isa.specs.Decoding.{named}
use Rattle.image_forms.specs.Function.{FunctionFits}
use Rattle.image_forms.specs.Room.{unit_room}
use Rattle.rt_stubs.specs.Laws.{StubsFit, StubsEnd}

start : ListedFunction
start = record {
  name = start_name;
  first = 0;
  words = 4;
  table = record { sites = record { start = 0; length = 8; pad = 0; chain = None } ∷ []; chains = []; types = []; lists = [] };
  moves = record { location = 0; change = Undefined 1 } ∷ [];
}

terminate : ListedFunction
terminate = record {
  name = stub_name terminating;
  first = 4;
  words = 8;
  table = record { sites = []; chains = []; types = []; lists = [] };
  moves = record { location = 4; change = Cfa (pos 32) } ∷ record { location = 8; change = Saved 1 (negsuc 23) } ∷ [];
}

leaving : ListedFunction
leaving = record {
  name = stub_name end_catch;
  first = 12;
  words = 28;
  table = record {
    sites = record { start = 32; length = 20; pad = 80; chain = Some 0 } ∷ record { start = 100; length = 12; pad = 0; chain = None } ∷ [];
    chains = (pos 0 ∷ []) ∷ [];
    types = [];
    lists = [];
  };
  moves = record { location = 4; change = Cfa (pos 48) } ∷ record { location = 8; change = Saved 1 (negsuc 39) } ∷ [];
}

unexpected : ListedFunction
unexpected = record {
  name = stub_name call_unexpected;
  first = 40;
  words = 60;
  table = record {
    sites =
        record { start = 28; length = 12; pad = 52; chain = Some 0 } ∷ record { start = 156; length = 8; pad = 204; chain = Some 1 } ∷
        record { start = 180; length = 24; pad = 204; chain = Some 1 } ∷ record { start = 228; length = 12; pad = 0; chain = None } ∷ [];
    chains = (pos 1 ∷ pos 0 ∷ []) ∷ (pos 0 ∷ []) ∷ [];
    types = 0 ∷ [];
    lists = [];
  };
  moves = record { location = 4; change = Cfa (pos 80) } ∷ record { location = 8; change = Saved 1 (negsuc 71) } ∷ [];
}

functions : emitted_stubs.functions ≡ start ∷ terminate ∷ leaving ∷ unexpected ∷ []
unfolding start terminate leaving unexpected
functions = refl

start_fits : FunctionFits 0 start
unfolding start
start_fits = record {
  some = search rules;
  table = record { order = search rules; inside = search rules; sites = search rules; chains = search rules; lists = search rules; types = search rules };
  moves = search rules;
}

terminate_fits : FunctionFits 0 terminate
unfolding terminate
terminate_fits = record {
  some = search rules;
  table = record { order = search rules; inside = search rules; sites = search rules; chains = search rules; lists = search rules; types = search rules };
  moves = search rules;
}

leaving_fits : FunctionFits 0 leaving
unfolding leaving
leaving_fits = record {
  some = search rules;
  table = record { order = search rules; inside = search rules; sites = search rules; chains = search rules; lists = search rules; types = search rules };
  moves = search rules;
}

unexpected_fits : FunctionFits 0 unexpected
unfolding unexpected
unexpected_fits = record {
  some = search rules;
  table = record { order = search rules; inside = search rules; sites = search rules; chains = search rules; lists = search rules; types = search rules };
  moves = search rules;
}

words : length emitted_stubs.code ≡ 100
words = refl

room : unit_room emitted_stubs ≡ 612
unfolding uleb_spelling uleb_spelling_within sleb_spelling sleb_spelling_within base_offset table_bytes fde_body fde_bytes
room = refl

pub stubs_fit : StubsFit
unfolding start terminate leaving unexpected
stubs_fit = record {
  words = omega (arith, words);
  room = omega (arith, room);
  row = search rules;
  functions = subst (AllByRecursion (FunctionFits 0)) (sym functions) (start_fits, (terminate_fits, (leaving_fits, (unexpected_fits, tt))));
}

longest : routine_words (stub_routine call_unexpected) + 2 * routine_words (stub_routine end_catch) ≡ 116
longest = refl

pub stubs_end : StubsEnd
unfolding named
stubs_end = record { forward = (refl, (refl, (refl, (refl, tt)))); executed = omega (arith, longest) }
