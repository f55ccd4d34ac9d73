-- The row of the refusal table that each fault of the reader is.
use Rattle.std.specs.Prelude.{ℕ, [], ◌∷◌}
use Rattle.counting.specs.Outputs.{Row}
use Rattle.tablefile.specs.declared.fault.CutShort.{CutShort}
use Rattle.tablefile.specs.declared.fault.SectionFault.{SectionFault}
use Rattle.tablefile.specs.declared.fault.SectionFault.TheVariants.{Number, Rule}
use Rattle.tablefile.specs.declared.fault.HeadFault.{HeadFault}
use Rattle.tablefile.specs.declared.fault.HeadFault.TheVariants.{Edition, Section}
use Rattle.tablefile.specs.declared.fault.FileFault.{FileFault}
use Rattle.tablefile.specs.declared.fault.FileFault.TheVariants.{Head, Levels, Bins, LeftOver}

-- a number cut short, in a section
abbrev pub number_row : ℕ → CutShort → Row
number_row section fault = (13, section ∷ fault.length ∷ [])

abbrev pub section_row : (section : ℕ) → SectionFault section → Row
section_row section (Number fault) = number_row section fault
section_row section (Rule place) = (14, section ∷ place ∷ [])

abbrev pub head_row : HeadFault → Row
head_row (Edition edition) = (12, edition ∷ [])
head_row (Section fault) = section_row 0 fault

abbrev pub file_row : FileFault → Row
file_row (Head fault) = head_row fault
file_row (Levels fault) = section_row 1 fault
file_row (Bins fault) = section_row 2 fault
file_row (LeftOver place) = (15, place ∷ [])
