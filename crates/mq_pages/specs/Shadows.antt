-- Shadows of writes.
use Rattle.mq_pages.specs.declared.page.ShadowPage.{ShadowPage}
use Rattle.mq_pages.specs.declared.page.Write.{Write}

-- the same content for the same block
abbrev pub shadow_of : Write → ShadowPage
shadow_of write = record { block = write.block; content = write.content }
