-- What a call and a return from it leave as it was: everything except the 8 bytes that had the return address.
use Rattle.std.specs.Prelude.{◌≡◌, ℕ, ◌+◌, ◌<◌, ◌≤◌, ◌⊎◌}
use Rattle.bl_x64.specs.Machines.{Core, pushed_at}
use Rattle.bl_x64.specs.declared.register.Register.{Register}

-- a state before a call and the state after the return
pub record IsBack (c d : Core) : Type 0 where
  pub registers : (r : Register) → d.registers r ≡ c.registers r
  pub flags : d.flags ≡ c.flags
  pub memory : (address : ℕ) → (address < pushed_at c) ⊎ (pushed_at c + 8 ≤ address) → d.memory address ≡ c.memory address
