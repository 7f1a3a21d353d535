-- Frames that a run does not change.
use Rattle.std.proofs.Common.{◌≡◌, ◌∙◌, ap, List}
use Rattle.rv64_isa.specs.declared.step.Step.{Step}
use Rattle.rv64_isa.specs.State.{State}
use Rattle.rv64_isa.specs.Step.{step_of}
use Rattle.frame_read.specs.ReadsFrames.{Listing}
use Rattle.cxa_runtime.specs.Frozen.{frozen}
use Rattle.frame_walk.specs.declared.frame.Frame.{Frame}
use Rattle.raise_core.specs.declared.raised.Raised.{Raised}
use Rattle.raise_core.specs.declared.raised.Raised.TheVariants.{Install, NoHandler, Terminate, Fault}
use Rattle.raise_core.specs.Entered.{EntersOrStays}
use Rattle.cxa_runtime.specs.Lasting.{AreLasting, StaysUnlessEntered}
use Rattle.cxa_runtime.proofs.Frozen.{step_keeps_frozen}

pub stepped_frozen : (s t : State) (did : Step) → (did, t) ≡ step_of s → frozen t.memory ≡ frozen s.memory
stepped_frozen s t did h = ap (λ p. frozen p.1.memory) h ∙ step_keeps_frozen s

pub still_lasting : (s t : State) (frames : Listing) → frozen t.memory ≡ frozen s.memory → AreLasting s frames → AreLasting t frames
still_lasting s t frames same lasting = λ u e. lasting u (e ∙ same)

pub same_memory : (s t : State) (frames : Listing) → t.memory ≡ s.memory → AreLasting s frames → AreLasting t frames
same_memory s t frames same lasting = still_lasting s t frames (ap frozen same) lasting

pub stays_unless : (all : List Frame) (answer : Raised) (s t : State) (frames : Listing) → EntersOrStays all answer s t →
    StaysUnlessEntered answer (record { hart = s; frames = frames }) (record { hart = t; frames = frames })
stays_unless all (Install pad selector cfa lsda) s t frames h = tt
stays_unless all NoHandler s t frames h = ap (λ x. record { hart = x; frames = frames }) h
stays_unless all Terminate s t frames h = ap (λ x. record { hart = x; frames = frames }) h
stays_unless all (Fault kind) s t frames h = ap (λ x. record { hart = x; frames = frames }) h
