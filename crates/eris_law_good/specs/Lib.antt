pub mod Evident
