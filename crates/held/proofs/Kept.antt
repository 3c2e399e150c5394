-- A held signal's edition stays, whatever is called. Assumes nothing.
use mathlib.Core.Path.{◌≡◌, refl, ◌∙◌}
use mathlib.Core.List.{[], ◌∷◌}
use Rattle.answers.specs.Left.{left}
use Rattle.signal.specs.Editions.{new_by, new_port_by}
use Rattle.signal.proofs.InEdition.{edition_kept, named_new, named_port}
use Rattle.held.specs.declared.Signal.{Signal}
use Rattle.held.specs.Held.{beside}
use Rattle.held.specs.Kept.{Call, wave, port, called, AsContracts, edition_held, EditionHeld, NamedHeld, NamedPortHeld}

pub as_contracts : (s : Signal) → AsContracts s
as_contracts s = record { phased = λ p. refl; dutied = λ d. refl; emptied = refl; ported = λ p. refl; fielded = λ i x. refl }

called_edition : (s : Signal) (c : Call) → edition_held (called s c) ≡ edition_held s
called_edition s (wave c) = edition_kept (left s.answer s.samples.now) (c ∷ [])
called_edition s (port p) = refl

pub edition_held_lem : EditionHeld
edition_held_lem s [] = refl
edition_held_lem s (c ∷ cs) = edition_held_lem (called s c) cs ∙ called_edition s c

pub named_held : NamedHeld
named_held x kind amplitude frequency edition cs z =
    edition_held_lem (beside x (new_by kind amplitude frequency edition x.now)) cs ∙ named_new kind amplitude frequency edition x.now [] z

pub named_port_held : NamedPortHeld
named_port_held x voltage current frequency edition cs z =
    edition_held_lem (beside x (new_port_by voltage current frequency edition x.now)) cs ∙ named_port voltage current frequency edition x.now [] z
