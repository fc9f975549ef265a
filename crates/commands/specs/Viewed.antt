-- What is lent to a look-up, as a disk.
use Rattle.disk.specs.Disk.{Disk, disk_in}
use Rattle.commands.specs.declared.view.View.{View}

abbrev pub disk_of : View → Disk
disk_of v = disk_in v.card.now v.queue.now v.journal.now v.rec.now
