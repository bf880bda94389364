-- What a call of the linker answers.
use Rattle.std.specs.Prelude.{◌≡◌, Result, Ok, Err}
use Rattle.bl_link.specs.declared.error.LinkError.{LinkError}
use Rattle.bl_link.specs.declared.error.LinkError.TheVariants.{Memory}

-- it answers what is wanted, but where there is no memory
abbrev pub Gives : {A : Type 0} → Result A LinkError → Result A LinkError → Type 0
Gives (Ok x) wanted = wanted ≡ Ok x
Gives (Err Memory) wanted = Unit {0}
Gives (Err error) wanted = wanted ≡ Err error

-- a call that makes something in place makes what is wanted, or says why there is none, but where there is no memory
abbrev pub Makes : {A B : Type 0} → Result B LinkError → A → Result A LinkError → Type 0
Makes (Ok done) made wanted = wanted ≡ Ok made
Makes (Err Memory) made wanted = Unit {0}
Makes (Err error) made wanted = wanted ≡ Err error
