-- What has become of each exception at a point of a run.
use Rattle.std.specs.Prelude.{◌≡◌, ℕ, ◌+◌, ◌<◌, ◌==◌, ◌&&◌, true, List, [], ◌∷◌}
use Rattle.run_items.specs.declared.item.Item.{Item}
use Rattle.meaning_forms.specs.Class.{contains}
use Rattle.meaning_forms.specs.World.{Live, Exception, building, native, foreign, World, exception_in}
use Rattle.meaning_events.specs.Events.{one_if, makes, raises, enters, leaves, destroys, frees, foreign_of, cleans_of, AreAllowed}

-- the part of a world that exceptions are in
pub record Story : Type 0 where
  pub last : ℕ
  pub live : List Live
  pub items : List Item

abbrev pub story : World → Story
story w = record { last = w.last_number; live = w.live; items = w.items }

-- how many live exceptions have a number
abbrev pub entries : ℕ → List Live → ℕ
entries e [] = 0
entries e (x ∷ xs) = one_if (x.number == e) + entries e xs

-- what has become of one exception: how often it is live and as what, and how often each event is told of it
pub record Fate : Type 0 where
  pub live : ℕ
  pub exception : Exception
  pub made : ℕ
  pub raised : ℕ
  pub destroyed : ℕ
  pub freed : ℕ

abbrev pub fate : Story → ℕ → Fate
fate s e = record {
  live = entries e s.live;
  exception = exception_in s.live e;
  made = makes e s.items;
  raised = raises e s.items;
  destroyed = destroys e s.items;
  freed = frees e s.items;
}

-- the fate of a number that was not given yet
abbrev pub unborn : Fate
unborn = record { live = 0; exception = building; made = 0; raised = 0; destroyed = 0; freed = 0 }

-- an exception that is built was made as an object, and a foreign one was not
abbrev pub IsBuilt : Exception → ℕ → Type 0
IsBuilt building made = ⊥
IsBuilt (native t o kept) made = made ≡ 1
IsBuilt (foreign k t) made = made ≡ 0

-- an exception can be handled
pub record IsWhole (f : Fate) : Type 0 where
  pub live : f.live ≡ 1
  pub built : IsBuilt f.exception f.made
  pub given : f.made + f.raised ≡ 1
  pub undestroyed : f.destroyed ≡ 0
  pub unfreed : f.freed ≡ 0

-- an exception is over: no longer live, and freed if it is an object
pub record IsOver (f : Fate) : Type 0 where
  pub gone : f.live ≡ 0
  pub freed : f.made ≡ f.freed

-- how often an exception is handled
abbrev pub times : ℕ → List ℕ → ℕ
times e [] = 0
times e (d ∷ ds) = one_if (d == e) + times e ds

-- an exception is a foreign one of module k with token t
abbrev pub is_token : (k t : ℕ) → Exception → ℕ
is_token k t building = 0
is_token k t (native u o kept) = 0
is_token k t (foreign j u) = one_if (j == k && u == t)

-- how many foreign exceptions of module k with token t are live
abbrev pub foreign_live : (k t : ℕ) → List Live → ℕ
foreign_live k t [] = 0
foreign_live k t (x ∷ xs) = is_token k t x.exception + foreign_live k t xs

-- What is told so far is allowed, nothing is told of a number that was not given, those that are handled are whole and have as many open handlers, and
-- each foreign exception is live or was cleaned.
pub record Tells (handled : List ℕ) (s : Story) : Type 0 where
  pub allowed : AreAllowed s.items
  pub unused : (e : ℕ) → s.last < e → fate s e ≡ unborn
  pub whole : (e : ℕ) → contains handled e ≡ true → IsWhole (fate s e)
  pub handlers : (e : ℕ) → enters e s.items ≡ leaves e s.items + times e handled
  pub tokens : (k t : ℕ) → foreign_of k t s.items ≡ cleans_of k t s.items + foreign_live k t s.live
