-- What one record adds to what is refused, and where its chain goes on.
use Rattle.std.specs.Prelude.{◌≡◌, ◌<◌, ◌^◌, ℕ, ℤ, suc, Option}
use Rattle.eh_bytes.specs.Memory.{Part, Memory}
use Rattle.table_forms.specs.declared.found.Next.TheVariants.{Goes}
use Rattle.table_forms.specs.declared.found.Action.TheVariants.{Record}
use Rattle.table_forms.specs.Fault.{Fault, joined, least}
use Rattle.table_forms.specs.LsdaHead.{Head}
use Rattle.table_forms.specs.LsdaChain.{action_at}
use Rattle.table_forms.specs.LsdaTypes.{filter_faults}
use Rattle.lsda_read.specs.Rests.{chain_rest}
use Rattle.lsda_read.specs.Known.{end_fault}
use Rattle.lsda_read.specs.declared.known.ChainEnd.{ChainEnd}
use Rattle.lsda_read.specs.declared.chain_walk.Turn.{Turn}
use Rattle.lsda_read.specs.declared.chain_walk.Turn.TheVariants as turns

-- the record at p goes on at q; what its filter names is judged
pub record GoesOn (memory : Memory) (part : Part) (h : Head) (before now : Option Fault) (p q : ℕ) : Type 0 where
  pub filter : ℤ
  pub next : action_at part h p ≡ Record filter (Goes q)
  pub near : q < 2 ^ 66
  pub stands : now ≡ joined before (least (filter_faults memory part h h.types p filter))

-- the chain ends at p; but for its end all is judged
pub record IsOver (memory : Memory) (part : Part) (h : Head) (before now : Option Fault) (p : ℕ) (e : ChainEnd) : Type 0 where
  pub more : Option Fault
  pub stands : now ≡ joined before more
  pub rest : (site a n : ℕ) → chain_rest memory part h site a (suc n) p ≡ joined more (end_fault part h site a e)

abbrev pub IsTurn : Memory → Part → Head → Option Fault → Option Fault → ℕ → Turn → Type 0
IsTurn memory part h before now p (turns.On q) = GoesOn memory part h before now p q
IsTurn memory part h before now p (turns.Over e) = IsOver memory part h before now p e
