-- Each refusal writes itself as its number and values are spoken.
use Rattle.std.proofs.Common.{◌≡◌, rules}
use Rattle.atoms.specs.Refusals.{spoken}
use Rattle.bank.specs.declared.fault.BankFault.{BankFault}
use Rattle.listcalls.specs.Faults.{told as store_told, text_of_fault as store_text}
use Rattle.listcalls.specs.declared.fault.StoreFault.{StoreFault}
use Rattle.pacing.specs.Refusals.{told as effort_told, text_of_fault as effort_text}
use Rattle.pacing.specs.declared.fault.EffortFault.{EffortFault}
use Rattle.pacing.specs.declared.fault.EffortFault.TheVariants.{OutOfRange}

pub effort_spoken : (f : EffortFault) → effort_text f ≡ spoken (effort_told f)
effort_spoken (OutOfRange k1 k2) = search rules

pub store_spoken : (f : StoreFault) → store_text f ≡ spoken (store_told f)
store_spoken (StoreFault.Bank (BankFault.NoSuchCell n)) = search rules
store_spoken (StoreFault.Bank (BankFault.WordTooWide n)) = search rules
store_spoken (StoreFault.NoRegister r) = search rules
store_spoken (StoreFault.NotACell r) = search rules
store_spoken (StoreFault.NoFreeCell work) = search rules

pub ruleset of_speaking = (effort_spoken, store_spoken)
