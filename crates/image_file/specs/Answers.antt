-- What a test of bytes answers: what it found where nothing is wrong, else what is wrong.
use Rattle.std.specs.Prelude.{◌≡◌, ◌≢◌, ◌<◌, ◌^◌, length, Option, None, Some, Result, Ok, Err}
use Rattle.image_file.specs.declared.error.ImageError.{ImageError}
use Rattle.image_file.specs.declared.error.ImageError.TheVariants.{NoMemory}
use Rattle.image_file.specs.declared.raw.RawImage.{RawImage}

-- a result of which P holds exactly where nothing is wrong, else what is wrong; want of memory is free
abbrev pub Answers : {T : Type 0} → Option ImageError → (T → Type 0) → Result T ImageError → Type 0
Answers fault P (Ok v) = (fault ≡ None) × P v
Answers fault P (Err e) = e ≢ NoMemory → fault ≡ Some e

-- what a test that takes no memory tells
abbrev pub told : {T : Type 0} → Result T ImageError → Option ImageError
told (Ok v) = None
told (Err e) = Some e

-- the lists are as long as the fields in front of them can say
pub record AreCounted (i : RawImage) : Type 0 where
  pub code : length i.code < 2 ^ 32
  pub fram : length i.fram < 2 ^ 32
  pub symbols : length i.symbols < 2 ^ 16
  pub peripherals : length i.peripherals < 2 ^ 16
  pub marks : length i.marks < 2 ^ 32
