-- Entries and votes as they are in the bytes of a frame, seen as those that are made of them.
use Rattle.acceptor.specs.declared.{entry.Entry.Entry, message.Report.Report}
use Rattle.acceptor.specs.Entries.{IsId, IsText}
use Rattle.wire.specs.declared.fields.{EntryPart.EntryPart, VotePart.VotePart}

abbrev pub part_entry : EntryPart → Entry
part_entry p = record { id = p.id; text = p.text.now }

abbrev pub part_report : VotePart → Report
part_report v = record { ballot = v.ballot; entry = part_entry v.entry }

abbrev pub IsPart : EntryPart → Type 0
IsPart p = IsId p.id × IsText p.text.now
