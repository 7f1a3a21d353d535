-- Refusals of frames, as those of an image.
use Rattle.elf_image.specs.declared.error.ImageError.{ImageError}
use Rattle.elf_image.specs.declared.error.ImageError.TheVariants as errors
use Rattle.frame_read.specs.declared.error.FrameError.{FrameError}
use Rattle.frame_read.specs.declared.error.FrameError.TheVariants as causes

abbrev pub of_frames : FrameError → ImageError
of_frames (causes.Refused reason place location other) = errors.Refused reason place location other
of_frames causes.NoMemory = errors.NoMemory
